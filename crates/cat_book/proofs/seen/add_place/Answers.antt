use Rattle.std.proofs.Common.{[], ◌++◌, sym, subst}
use Rattle.std.specs.List.{cons_option}
use Rattle.cat_names.specs.Indexed.{AreKeys}
use Rattle.cat_book.specs.Rules.{place_cmp}
use Rattle.cat_book.proofs.seen.add_place.Goals as goal

pub returns-in_ok-add_key-in-Some-clause-added : goal.returns-in_ok-add_key-in-Some-clause-added
returns-in_ok-add_key-in-Some-clause-added c = λ ps h. subst (λ p. AreKeys place_cmp c.add_key.new.keys (ps ++ cons_option p [])) (sym c.in-Some.is) (c.in_ok-add_key-in-Some.ensures.added ps h)
