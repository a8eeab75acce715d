use Rattle.std.proofs.Common.{◌≡◌, take}
use Rattle.std.specs.List.{flat_map}
use Rattle.dep_sort.specs.Cut.{moved_arcs}
use Rattle.dep_sort.proofs.cut.moved_arcs.Given as goal

abbrev pub invariant-loop-edge : goal.invariant-loop-edge
invariant-loop-edge l = l.arcs.items ≡ flat_map (moved_arcs l.count l.made) (take l.edge-index l.edges)
