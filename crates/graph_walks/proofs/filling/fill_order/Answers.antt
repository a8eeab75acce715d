use Rattle.std.proofs.Common.{◌≡◌, ℕ, ◌<◌, ◌≤◌, ◌++◌, List, [], ◌∷◌, length, take, drop, get_or, subst, sym, ◌∙◌}
use Rattle.std.specs.Prelude.{All, nat_eq}
use Rattle.std.specs.List.{IsDistinct}
use Rattle.std.specs.BinaryHeap.{heap_items}
use Rattle.std.proofs.lemmas.List.{take_at, nil_from_length}
use Rattle.graph_walks.specs.Arcs.{Arc, AreWithin, arcs_from}
use Rattle.graph_walks.specs.Counting.{ending, AreFree, AreReleased}
use Rattle.graph_walks.proofs.Filled.{IsFilling, IsTaken, rest, filling_starts, taken_is, filling_goes_on, filling_ends, rest_falls}
use Rattle.graph_walks.specs.Filling.{order_of}
use Rattle.graph_walks.proofs.Orders.{order_distinct, order_within}
use Rattle.graph_walks.proofs.filling.fill_order.Goals as goal

pub loop-place-init : goal.loop-place-init
loop-place-init c =
    let n : ℕ = c.args.arcs.now.count in
    let arcs : List Arc = c.args.arcs.now.arcs in
    let seen : c.deref.result.now ≡ c.in_ok-counts.counts.items = c.deref.ensures.value in
    let fits : AreFree (λ _. 0) c.in_ok-counts.counts.items (heap_items c.in_ok-free.free) = subst (λ (l : List ℕ). AreFree (λ _. 0) l (heap_items c.in_ok-free.free)) seen c.in_ok-free.ensures.each in
    let small : All (λ y. y < length c.in_ok-counts.counts.items) (heap_items c.in_ok-free.free) = subst (λ (l : List ℕ). All (λ y. y < length l) (heap_items c.in_ok-free.free)) seen c.in_ok-free.ensures.within in
    subst (λ (l : List ℕ). IsFilling n arcs l c.in_ok-counts.counts.items (heap_items c.in_ok-free.free)) (sym c.in_ok-placed.ensures.items)
    (filling_starts n arcs c.in_ok-counts.counts.items (heap_items c.in_ok-free.free) c.in_ok-counts.ensures.count c.in_ok-counts.ensures.each fits small c.in_ok-free.ensures.heap)

pub release-requires-clause-counted : goal.release-requires-clause-counted
release-requires-clause-counted c =
    let n : ℕ = c.args.arcs.now.count in
    let arcs : List Arc = c.args.arcs.now.arcs in
    let x : ℕ = c.in-Some.place in
    let within : AreWithin n arcs = subst (λ (k : ℕ). AreWithin k arcs) c.count.ensures.count c.count.ensures.within in
    let is : IsTaken n arcs c.loop-place.placed.items c.loop-place.counts.items (heap_items c.pop.new.self) x = taken_is n arcs _ _ (heap_items c.loop-place.free) _ x within c.loop-place.invariant c.in-Some.ensures.permutation (c.in-Some.ensures.below_top c.loop-place.invariant.heap) in
    let all : (v : ℕ) → v < length c.loop-place.counts.items → ending c.from.result.now v ≤ get_or c.loop-place.counts.items v 0 = subst (λ (l : List Arc). (v : ℕ) → v < length c.loop-place.counts.items → ending l v ≤ get_or c.loop-place.counts.items v 0) (sym c.from.ensures.value) is.counted in
    subst (λ (l : List ℕ). (v : ℕ) → v < length l → ending c.from.result.now v ≤ get_or l v 0) (sym c.deref_mut.ensures.value) all

pub loop-place-smaller : goal.loop-place-smaller
loop-place-smaller c =
    let n : ℕ = c.args.arcs.now.count in
    let arcs : List Arc = c.args.arcs.now.arcs in
    let x : ℕ = c.in-Some.place in
    let within : AreWithin n arcs = subst (λ (k : ℕ). AreWithin k arcs) c.count.ensures.count c.count.ensures.within in
    let is : IsTaken n arcs c.loop-place.placed.items c.loop-place.counts.items (heap_items c.pop.new.self) x = taken_is n arcs _ _ (heap_items c.loop-place.free) _ x within c.loop-place.invariant c.in-Some.ensures.permutation (c.in-Some.ensures.below_top c.loop-place.invariant.heap) in
    subst (λ (l : List ℕ). length (rest n l) < length (rest n c.loop-place.placed.items)) (sym c.in_ok-push.ensures.items) (rest_falls n c.loop-place.placed.items x is.low is.out)

pub loop-place-preserved : goal.loop-place-preserved
loop-place-preserved c =
    let n : ℕ = c.args.arcs.now.count in
    let arcs : List Arc = c.args.arcs.now.arcs in
    let x : ℕ = c.in-Some.place in
    let counts : List ℕ = c.loop-place.counts.items in
    let after : List ℕ = c.release.new.counts in
    let more : List ℕ = heap_items c.release.new.free in
    let left : List ℕ = heap_items c.pop.new.self in
    let within : AreWithin n arcs = subst (λ (k : ℕ). AreWithin k arcs) c.count.ensures.count c.count.ensures.within in
    let is : IsTaken n arcs c.loop-place.placed.items counts left x = taken_is n arcs _ _ (heap_items c.loop-place.free) _ x within c.loop-place.invariant c.in-Some.ensures.permutation (c.in-Some.ensures.below_top c.loop-place.invariant.heap) in
    let seen : c.deref_mut.result.now ≡ counts = c.deref_mut.ensures.value in
    let released : AreReleased (arcs_from x arcs) counts after =
    subst (λ (l : List ℕ). AreReleased (arcs_from x arcs) l after) seen
    (subst (λ (l : List Arc). AreReleased l c.deref_mut.result.now after) c.from.ensures.value c.in_ok-release.ensures.counts) in
    let fit : (gone : ℕ → ℕ) → AreFree gone counts left → AreFree gone after more = subst (λ (l : List ℕ). (gone : ℕ → ℕ) → AreFree gone l left → AreFree gone after more) seen c.in_ok-release.ensures.free in
    let kept : All (λ y. y < length counts) more = subst (λ (l : List ℕ). All (λ y. y < length l) more) seen c.in_ok-release.ensures.kept in
    let now : IsFilling n arcs (c.loop-place.placed.items ++ x ∷ []) after more = filling_goes_on n arcs _ counts (heap_items c.loop-place.free) left x after more c.loop-place.invariant is released fit kept c.in_ok-release.ensures.order in
    let long : length after ≡ c.loop-place.counts.len = c.in_ok-release.ensures.counts.count_is ∙ c.deref_mut.ensures.len in
    let whole : take c.loop-place.counts.len (after ++ drop (length after) counts) ≡ after = take_at after (drop (length after) counts) c.loop-place.counts.len long in
    subst (λ (l : List ℕ). IsFilling n arcs l (take c.loop-place.counts.len (after ++ drop (length after) counts)) more) (sym c.in_ok-push.ensures.items)
    (subst (λ (l : List ℕ). IsFilling n arcs (c.loop-place.placed.items ++ x ∷ []) l more) (sym whole) now)

pub returns : goal.returns
returns c =
    let n : ℕ = c.args.arcs.now.count in
    let arcs : List Arc = c.args.arcs.now.arcs in
    let within : AreWithin n arcs = subst (λ (k : ℕ). AreWithin k arcs) c.count.ensures.count c.count.ensures.within in
    let none = c.in_default.ensures.none in
    let okay = c.loop-place.free.data.ok in
    let empty : heap_items c.loop-place.free ≡ [] = nil_from_length (heap_items c.loop-place.free) (sym okay.0 ∙ none) in
    let is : c.reverse.new.self.items ≡ order_of n arcs = c.reverse.ensures.items ∙ filling_ends n arcs c.loop-place.placed.items c.loop-place.counts.items (heap_items c.loop-place.free) within c.loop-place.invariant empty in
    record { value = is; within = subst (All (λ place. place < n)) (sym is) (order_within n arcs); distinct = subst (IsDistinct nat_eq) (sym is) (order_distinct n arcs) }
