use Rattle.std.proofs.Common.{ℕ, ◌+◌, ◌-◌, ◌<◌, ◌≤◌, length, get_or, set, take, subst, sym, arith}
use Rattle.std.specs.BinaryHeap.{IsHeap, heap_items}
use Rattle.std.specs.Ordering.{nat_cmp}
use Rattle.std.proofs.lemmas.List.Elements.{All-cons}
use Rattle.std.proofs.lemmas.List.Sorted.{All-permutation}
use Rattle.std.specs.Prelude.{All}
use Rattle.graph_walks.specs.Counting.{AreFree, AreReleased}
use Rattle.graph_walks.proofs.Counted.{one_left, released_more, free_less, less_one, less_none}
use Rattle.graph_walks.proofs.filling.release.Goals as goal
use Rattle.graph_walks.proofs.filling.release.Goals.{then-left-eq0+in_ok-push, else-left-eq0}

pub overflow_sub-left : goal.overflow_sub-left
overflow_sub-left c =
    let i : ℕ = (get_or c.args.arcs.now c.loop-arc.arc-index (0, 0)).1 in
    one_left _ _ _ _ c.loop-arc-test.true c.loop-arc.invariant.counts (c.requires.within c.loop-arc.arc-index (0, 0) c.loop-arc-test.true) (c.requires.counted i (c.requires.within c.loop-arc.arc-index (0, 0) c.loop-arc-test.true))

pub loop-arc-preserved : goal.loop-arc-preserved
loop-arc-preserved c =
    let before = c.loop-arc.invariant in
    let k : ℕ = c.loop-arc.arc-index in
    let e : ℕ = (get_or c.args.arcs.now k (0, 0)).1 in
    let low : e < length c.args.counts.now = c.requires.within k (0, 0) c.loop-arc-test.true in
    let left : 1 ≤ get_or c.loop-arc.counts e 0 = one_left _ _ _ _ c.loop-arc-test.true before.counts low (c.requires.counted e low) in
    let within : e < length c.loop-arc.counts = omega (arith, before.counts.count_is) in
    let x : ℕ = get_or c.loop-arc.counts e 0 - 1 in
    let released : AreReleased (take (k + 1) c.args.arcs.now) c.args.counts.now (set c.loop-arc.counts e x) = released_more _ _ _ _ c.loop-arc-test.true before.counts low left in
    elim c.if-left-eq0.branch [
      | then-left-eq0+in_ok-push w ↦
          let joined = w.in_ok-push.ensures.permutation in
          subst (λ f. record { counts : AreReleased (take (k + 1) c.args.arcs.now) c.args.counts.now (set c.loop-arc.counts e x); free : (gone : ℕ → ℕ) → AreFree gone c.args.counts.now (heap_items c.args.free.now) → AreFree gone (set c.loop-arc.counts e x) (heap_items f); kept : All (λ place. place < length c.args.counts.now) (heap_items f); heap : IsHeap nat_cmp (heap_items f) }) (sym w.free-is)
          (record {
            counts = released;
            free = λ gone fits. free_less gone _ _ _ e within left (before.free gone fits) (less_one x e _ _ w.if-left-eq0.true joined);
            kept = All-permutation (λ place. place < length c.args.counts.now) _ _ joined (All-cons (λ place. place < length c.args.counts.now) _ _ low before.kept);
            heap = w.in_ok-push.ensures.heap_order before.heap;
          })
      | else-left-eq0 w ↦
          subst (λ f. record { counts : AreReleased (take (k + 1) c.args.arcs.now) c.args.counts.now (set c.loop-arc.counts e x); free : (gone : ℕ → ℕ) → AreFree gone c.args.counts.now (heap_items c.args.free.now) → AreFree gone (set c.loop-arc.counts e x) (heap_items f); kept : All (λ place. place < length c.args.counts.now) (heap_items f); heap : IsHeap nat_cmp (heap_items f) }) (sym w.free-is)
          (record {
            counts = released;
            free = λ gone fits. free_less gone _ _ _ e within left (before.free gone fits) (less_none x e (heap_items c.loop-arc.free) w.if-left-eq0.false);
            kept = before.kept;
            heap = before.heap;
          })
    ]
