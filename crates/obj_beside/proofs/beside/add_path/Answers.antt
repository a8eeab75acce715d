use Rattle.std.proofs.Common.{[], ◌++◌, option_map, sym, subst}
use Rattle.std.specs.List.{cons_option}
use Rattle.cat_book.specs.Paths.{path_cmp}
use Rattle.obj_beside.specs.Firsts.{AreFirsts}
use Rattle.obj_beside.proofs.beside.add_path.Goals as goal

pub returns-in_ok-add_first : goal.returns-in_ok-add_first
returns-in_ok-add_first c = λ es h. subst (λ p. AreFirsts path_cmp c.add_first.new.firsts (es ++ cons_option (option_map (λ q. (q, c.args.id)) p) [])) (sym c.in-Some.is) (c.in_ok-add_first.ensures es h)
