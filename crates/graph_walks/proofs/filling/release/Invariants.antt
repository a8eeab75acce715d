use Rattle.std.proofs.Common.{ℕ, ◌<◌, length, take}
use Rattle.std.specs.Prelude.{All}
use Rattle.std.specs.BinaryHeap.{IsHeap, heap_items}
use Rattle.std.specs.Ordering.{nat_cmp}
use Rattle.graph_walks.specs.Counting.{AreFree, AreReleased}
use Rattle.graph_walks.proofs.filling.release.Given as goal

abbrev pub invariant-loop-arc : goal.invariant-loop-arc
invariant-loop-arc l = record {
  counts : AreReleased (take l.arc-index l.arcs) l.fn.counts l.counts;
  free : (gone : ℕ → ℕ) → AreFree gone l.fn.counts (heap_items l.fn.free) → AreFree gone l.counts (heap_items l.free);
  kept : All (λ place. place < length l.fn.counts) (heap_items l.free);
  heap : IsHeap nat_cmp (heap_items l.free);
}
