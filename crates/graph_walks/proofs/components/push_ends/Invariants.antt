use Rattle.std.proofs.Common.{◌≡◌, ◌++◌, map, take}
use Rattle.graph_walks.proofs.components.push_ends.Given as goal

abbrev pub invariant-loop-arc : goal.invariant-loop-arc
invariant-loop-arc l = l.pending.items ≡ l.fn.pending.items ++ map (λ arc. arc.1) (take l.arc-index l.arcs)
