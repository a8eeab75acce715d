use Rattle.std.proofs.Common.{◌≡◌, ℕ, ◌<◌, List, length, map, get_or, Vec, Global, sym, ap, subst, ◌∙◌}
use Rattle.std.specs.Prelude.{All, nat_eq}
use Rattle.std.specs.List.{IsDistinct}
use Rattle.std.proofs.lemmas.Result.{IfOk-weaker}
use Rattle.graph_parts.specs.declared.object.Obj.{Obj}
use Rattle.graph_walks.specs.Arcs.{Arc}
use Rattle.graph_walks.specs.Filling.{order_of}
use Rattle.dep_sort.specs.FirstOrder.{first_places, renumbered}
use Rattle.dep_sort.specs.Ordering.{final_places}
use Rattle.dep_sort.proofs.Distinct.{first_distinct, picked_distinct, picked_within}
use Rattle.dep_sort.proofs.Sorting.{first_count, first_within}
use Rattle.dep_sort.proofs.cut_graph.final_places.Goals as goal

pub returns : goal.returns
unfolding final_places
returns c =
    let objects : List Obj = c.args.objects.now in
    let arcs : List Arc = c.args.arcs.now in
    let first : List ℕ = first_places objects in
    let by : c.deref.result.now ≡ first = c.deref.ensures.value ∙ c.in_ok-first.ensures.value in
    let places : c.deref-2.result.now ≡ first = c.deref-2.ensures.value ∙ c.in_ok-first.ensures.value in
    let count : c.in_ok-net.net.count ≡ length first = c.in_ok-net.ensures.count ∙ ap length by in
    let order : c.deref-3.result.now ≡ order_of (length objects) (renumbered first arcs) =
    c.deref-3.ensures.value
    ∙ c.in_ok-order.ensures.value
    ∙ ap (λ (k : ℕ). order_of k c.in_ok-net.net.arcs) c.in_ok-net.ensures.count
    ∙ sym c.in_ok-net.ensures.alike.order
    ∙ ap (λ (l : List ℕ). order_of (length l) (renumbered l arcs)) by
    ∙ ap (λ (k : ℕ). order_of k (renumbered first arcs)) (first_count objects) in
    let given : Vec ℕ Global → Type 0 = λ v. v.items ≡ map (λ at. get_or c.deref-2.result.now at 0) c.deref-3.result.now in
    let apart : IsDistinct nat_eq c.deref-3.result.now = subst (IsDistinct nat_eq) (sym c.deref-3.ensures.value) c.in_ok-order.ensures.distinct in
    let low : All (λ at. at < length c.deref-2.result.now) c.deref-3.result.now =
    subst (λ (l : List ℕ). All (λ at. at < length l) c.deref-3.result.now) (sym places)
    (subst (λ (k : ℕ). All (λ at. at < k) c.deref-3.result.now) count (subst (All (λ at. at < c.in_ok-net.net.count)) (sym c.deref-3.ensures.value) c.in_ok-order.ensures.within)) in
    let once : IsDistinct nat_eq c.deref-2.result.now = subst (IsDistinct nat_eq) (sym places) (first_distinct objects) in
    let within : All (λ place. place < length objects) c.deref-2.result.now = subst (All (λ place. place < length objects)) (sym places) (first_within objects) in
    record {
      value = IfOk-weaker c.places_at.result given (λ (v : Vec ℕ Global). v.items ≡ map (λ at. get_or first at 0) (order_of (length objects) (renumbered first arcs)))
          (λ v is. is ∙ ap (λ (l : List ℕ). map (λ at. get_or l at 0) c.deref-3.result.now) places ∙ ap (map (λ at. get_or first at 0)) order)
          c.places_at.ensures;
      within = IfOk-weaker c.places_at.result given (λ (v : Vec ℕ Global). All (λ place. place < length objects) v.items)
          (λ v is. subst (All (λ place. place < length objects)) (sym is) (picked_within (length objects) c.deref-2.result.now c.deref-3.result.now within low))
          c.places_at.ensures;
      distinct = IfOk-weaker c.places_at.result given (λ (v : Vec ℕ Global). IsDistinct nat_eq v.items)
          (λ v is. subst (IsDistinct nat_eq) (sym is) (picked_distinct c.deref-2.result.now c.deref-3.result.now once apart low))
          c.places_at.ensures;
    }
