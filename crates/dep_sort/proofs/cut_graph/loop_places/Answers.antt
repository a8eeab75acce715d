use Rattle.std.proofs.Common.{◌≡◌, ℕ, ◌<◌, List, length, map, get_or, Vec, Global, sym, ap, subst, ◌∙◌}
use Rattle.std.specs.Prelude.{All}
use Rattle.std.proofs.lemmas.Result.{IfOk-weaker}
use Rattle.graph_parts.specs.declared.object.Obj.{Obj}
use Rattle.graph_walks.specs.Arcs.{Arc}
use Rattle.graph_walks.specs.Telling.{told_cycle}
use Rattle.dep_sort.specs.FirstOrder.{id_places, renumbered}
use Rattle.dep_sort.specs.Ordering.{told_places}
use Rattle.dep_sort.proofs.Distinct.{picked_within}
use Rattle.dep_sort.proofs.Sorting.{id_count, id_within}
use Rattle.dep_sort.proofs.cut_graph.loop_places.Goals as goal

pub returns : goal.returns
unfolding told_places
returns c =
    let objects : List Obj = c.args.objects.now in
    let arcs : List Arc = c.args.arcs.now in
    let first : List ℕ = id_places objects in
    let by : c.deref.result.now ≡ first = c.deref.ensures.value ∙ c.in_ok-by_id.ensures.value in
    let places : c.deref-2.result.now ≡ first = c.deref-2.ensures.value ∙ c.in_ok-by_id.ensures.value in
    let count : c.in_ok-net.net.count ≡ length first = c.in_ok-net.ensures.count ∙ ap length by in
    let order : c.deref-3.result.now ≡ told_cycle (length objects) (renumbered first arcs) =
    c.deref-3.ensures.value
    ∙ c.in_ok-path.ensures.value
    ∙ ap (λ (k : ℕ). told_cycle k c.in_ok-net.net.arcs) c.in_ok-net.ensures.count
    ∙ sym c.in_ok-net.ensures.alike.told
    ∙ ap (λ (l : List ℕ). told_cycle (length l) (renumbered l arcs)) by
    ∙ ap (λ (k : ℕ). told_cycle k (renumbered first arcs)) (id_count objects) in
    let given : Vec ℕ Global → Type 0 = λ v. v.items ≡ map (λ at. get_or c.deref-2.result.now at 0) c.deref-3.result.now in
    let low : All (λ at. at < length c.deref-2.result.now) c.deref-3.result.now =
    subst (λ (l : List ℕ). All (λ at. at < length l) c.deref-3.result.now) (sym places)
    (subst (λ (k : ℕ). All (λ at. at < k) c.deref-3.result.now) count (subst (All (λ at. at < c.in_ok-net.net.count)) (sym c.deref-3.ensures.value) c.in_ok-path.ensures.within)) in
    let within : All (λ place. place < length objects) c.deref-2.result.now = subst (All (λ place. place < length objects)) (sym places) (id_within objects) in
    record {
      value = IfOk-weaker c.places_at.result given (λ (v : Vec ℕ Global). v.items ≡ map (λ at. get_or first at 0) (told_cycle (length objects) (renumbered first arcs)))
          (λ v is. is ∙ ap (λ (l : List ℕ). map (λ at. get_or l at 0) c.deref-3.result.now) places ∙ ap (map (λ at. get_or first at 0)) order)
          c.places_at.ensures;
      within = IfOk-weaker c.places_at.result given (λ (v : Vec ℕ Global). All (λ place. place < length objects) v.items)
          (λ v is. subst (All (λ place. place < length objects)) (sym is) (picked_within (length objects) c.deref-2.result.now c.deref-3.result.now within low))
          c.places_at.ensures;
    }
