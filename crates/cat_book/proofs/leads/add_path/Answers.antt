use Rattle.std.proofs.Common.{[], ◌++◌, sym, subst}
use Rattle.std.specs.List.{cons_option}
use Rattle.cat_names.specs.Indexed.{AreKeys}
use Rattle.cat_book.specs.Paths.{path_cmp}
use Rattle.cat_book.proofs.leads.add_path.Goals as goal

pub returns-in_ok-add_key : goal.returns-in_ok-add_key
returns-in_ok-add_key c = λ ps h. subst (λ p. AreKeys path_cmp c.add_key.new.keys (ps ++ cons_option p [])) (sym c.in-Some.is) (c.in_ok-add_key.ensures.added ps h)
