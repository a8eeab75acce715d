use Rattle.std.proofs.Common.{◌≡◌, ℕ, ◌<◌, ◌++◌, ◌∷◌, [], List, length, get_or, Some, refl, sym, ap, ◌∙◌}
use Rattle.std.specs.Prelude.{option_map, slice_get}
use Rattle.std.proofs.lemmas.Option.{slice_get_read}
use Rattle.graph_parts.specs.declared.object.Obj.{Obj}
use Rattle.graph_parts.specs.declared.object.ObjId.{ObjId}
use Rattle.dep_sort.proofs.Picking.{picked_more}
use Rattle.dep_sort.proofs.ordering.ids_at.Goals as goal

pub loop-place-preserved : goal.loop-place-preserved
loop-place-preserved c =
    let objects : List Obj = c.args.objects.now in
    let places : List ℕ = c.args.places.now in
    let k : ℕ = c.loop-place.place-index in
    let object : Obj = c.index-objects-place.result in
    let low : get_or places k 0 < length objects = c.requires k 0 c.loop-place-test.true in
    let at : slice_get objects (get_or places k 0) ≡ Some object = slice_get_read objects (length objects) (get_or places k 0) object refl low c.index-objects-place.is in
    c.in_ok-push.ensures.items
    ∙ ap (λ (o : Obj). c.loop-place.found.items ++ o.id ∷ []) (sym c.index-objects-place.is)
    ∙ ap (λ (l : List ObjId). l ++ object.id ∷ []) c.loop-place.invariant
    ∙ sym (picked_more (λ place. option_map (λ (o : Obj). o.id) (slice_get objects place)) places k object.id c.loop-place-test.true (ap (option_map (λ (o : Obj). o.id)) at))
