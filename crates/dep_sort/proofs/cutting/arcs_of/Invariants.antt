use Rattle.std.proofs.Common.{◌≡◌, map, take}
use Rattle.dep_sort.specs.Cut.{arc_of}
use Rattle.dep_sort.proofs.cutting.arcs_of.Given as goal

abbrev pub invariant-loop-edge : goal.invariant-loop-edge
invariant-loop-edge l = l.arcs.items ≡ map arc_of (take l.edge-index l.edges)
