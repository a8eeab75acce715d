use Rattle.std.proofs.Common.{◌≡◌, map, take}
use Rattle.dep_sort.proofs.ordering.ends_of.Given as goal

abbrev pub invariant-loop-arc : goal.invariant-loop-arc
invariant-loop-arc l = l.ends.items ≡ map (λ arc. arc.1) (take l.arc-index l.arcs)
