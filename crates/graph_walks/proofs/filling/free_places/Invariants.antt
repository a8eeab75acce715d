use Rattle.std.proofs.Common.{◌<◌, take}
use Rattle.std.specs.Prelude.{All}
use Rattle.std.specs.BinaryHeap.{IsHeap, heap_items}
use Rattle.std.specs.Ordering.{nat_cmp}
use Rattle.graph_walks.specs.Counting.{AreFree}
use Rattle.graph_walks.proofs.filling.free_places.Given as goal

abbrev pub invariant-loop-place : goal.invariant-loop-place
invariant-loop-place l = record {
  each : AreFree (λ _. 0) (take l.place l.counts) (heap_items l.free);
  within : All (λ place. place < l.place) (heap_items l.free);
  heap : IsHeap nat_cmp (heap_items l.free);
}
