use Rattle.std.proofs.Common.{◌≡◌, take}
use Rattle.std.specs.List.{enumerate_from, flat_map}
use Rattle.dep_sort.specs.Cut.{bound_arcs}
use Rattle.dep_sort.proofs.cut.bound_arcs.Given as goal

abbrev pub invariant-loop-at : goal.invariant-loop-at
invariant-loop-at l = l.arcs.items ≡ flat_map (bound_arcs l.objects) (enumerate_from 0 (take l.at l.made))
