use Rattle.std.proofs.Common.{◌≡◌, get_or, map, take}
use Rattle.dep_sort.proofs.cut_graph.ends_by.Given as goal

abbrev pub invariant-loop-arc : goal.invariant-loop-arc
invariant-loop-arc l = l.ends.items ≡ map (λ arc. (get_or l.ranks arc.0 0, get_or l.ranks arc.1 0)) (take l.arc-index l.arcs)
