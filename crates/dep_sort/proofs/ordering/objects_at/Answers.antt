use Rattle.std.proofs.Common.{◌≡◌, ℕ, ◌+◌, ◌<◌, ◌++◌, ◌∷◌, [], List, length, get_or, Some, refl, sym, ap, ◌∙◌, arith}
use Rattle.std.specs.Prelude.{slice_get}
use Rattle.std.proofs.lemmas.List.{length-append}
use Rattle.std.proofs.lemmas.Option.{slice_get_read}
use Rattle.graph_parts.specs.declared.object.Obj.{Obj}
use Rattle.dep_sort.proofs.Picking.{picked_more}
use Rattle.dep_sort.proofs.ordering.objects_at.Goals as goal

pub loop-place-preserved : goal.loop-place-preserved
loop-place-preserved c =
    let objects : List Obj = c.args.objects.now in
    let places : List ℕ = c.args.places.now in
    let k : ℕ = c.loop-place.place-index in
    let object : Obj = c.index-objects-place.result in
    let low : get_or places k 0 < length objects = c.requires k 0 c.loop-place-test.true in
    let at : slice_get objects (get_or places k 0) ≡ Some object = slice_get_read objects (length objects) (get_or places k 0) object refl low c.index-objects-place.is in
    let items : c.push.new.self.items ≡ c.loop-place.found.items ++ object ∷ [] = c.in_ok-push.ensures.items ∙ ap (λ (o : Obj). c.loop-place.found.items ++ o ∷ []) c.in_ok-clone.ensures.cases in
    let so_far : length c.loop-place.found.items ≡ k = c.loop-place.invariant.count in
    record {
      value = items ∙ ap (λ (l : List Obj). l ++ object ∷ []) c.loop-place.invariant.value ∙ sym (picked_more (slice_get objects) places k object c.loop-place-test.true at);
      count = let long : length c.push.new.self.items ≡ length c.loop-place.found.items + 1 = ap length items ∙ length-append c.loop-place.found.items (object ∷ []) in omega arith;
    }
