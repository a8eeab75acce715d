-- The objects that are chosen of the rows so far stand behind the others.
use Rattle.std.proofs.Common.{◌≡◌, ◌++◌, filter_map, take}
use Rattle.obj_links.proofs.object_list.push_chosen.Given as goal

abbrev pub invariant-loop-row : goal.invariant-loop-row
invariant-loop-row g l = l.objects.items ≡ l.fn.objects.items ++ filter_map (g.C.Chosen.chosen l.beside l.select) (take l.row-index l.rows)
