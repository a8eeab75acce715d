use Rattle.std.proofs.Common.{ℕ, ◌+◌, ◌<◌, length, get_or, take, subst, sym, arith}
use Rattle.std.specs.Prelude.{All}
use Rattle.std.specs.BinaryHeap.{IsHeap, heap_items}
use Rattle.std.specs.Ordering.{nat_cmp}
use Rattle.std.proofs.lemmas.List.Elements.{All-cons, All-weaker}
use Rattle.std.proofs.lemmas.List.Sorted.{All-permutation}
use Rattle.graph_walks.specs.Counting.{AreFree}
use Rattle.graph_walks.proofs.Counted.{free_more, less_one, less_none}
use Rattle.graph_walks.proofs.filling.free_places.Goals as goal
use Rattle.graph_walks.proofs.filling.free_places.Goals.{then-count-eq0+in_ok-push, else-count-eq0}

pub loop-place-preserved : goal.loop-place-preserved
loop-place-preserved c =
    let before = c.loop-place.invariant in
    let p : ℕ = c.loop-place.place in
    let small : p < length c.args.counts.now = c.loop-place-test.true in
    elim c.if-count-eq0.branch [
      | then-count-eq0+in_ok-push w ↦
          let joined = w.in_ok-push.ensures.permutation in
          subst (λ f. record { each : AreFree (λ _. 0) (take (p + 1) c.args.counts.now) (heap_items f); within : All (λ place. place < p + 1) (heap_items f); heap : IsHeap nat_cmp (heap_items f) }) (sym w.free-is)
          (record {
            each = free_more _ _ _ p small before.each before.within (less_one (get_or c.args.counts.now p 0) p _ _ w.if-count-eq0.true joined);
            within = All-permutation (λ place. place < p + 1) _ _ joined (All-cons (λ place. place < p + 1) _ _ (omega arith) (All-weaker (λ place. place < p) (λ place. place < p + 1) (λ x h. omega arith) _ before.within));
            heap = w.in_ok-push.ensures.heap_order before.heap;
          })
      | else-count-eq0 w ↦
          subst (λ f. record { each : AreFree (λ _. 0) (take (p + 1) c.args.counts.now) (heap_items f); within : All (λ place. place < p + 1) (heap_items f); heap : IsHeap nat_cmp (heap_items f) }) (sym w.free-is)
          (record {
            each = free_more _ _ _ p small before.each before.within (less_none (get_or c.args.counts.now p 0) p (heap_items c.loop-place.free) w.if-count-eq0.false);
            within = All-weaker (λ place. place < p) (λ place. place < p + 1) (λ x h. omega arith) _ before.within;
            heap = before.heap;
          })
    ]
