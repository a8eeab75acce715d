use Rattle.std.proofs.Common.{length}
use Rattle.std.specs.BinaryHeap.{heap_items}
use Rattle.graph_walks.proofs.Filled.{IsFilling, rest}
use Rattle.graph_walks.proofs.filling.fill_order.Given as goal

abbrev pub invariant-loop-place : goal.invariant-loop-place
invariant-loop-place l = IsFilling l.arcs.count l.arcs.arcs l.placed.items l.counts.items (heap_items l.free)

abbrev pub decreases-loop-place : goal.decreases-loop-place
decreases-loop-place l = length (rest l.arcs.count l.placed.items)
