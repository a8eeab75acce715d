use Rattle.std.proofs.Common.{◌≡◌, length, sym, ap, ◌∙◌, rules}
use Rattle.dep_sort.specs.Ordering.{final_places}
use Rattle.dep_sort.proofs.Dues.{places_are, due_whole, due_loop}
use Rattle.dep_sort.proofs.ordering.order.Goals as goal

pub returns-then-len-objects : goal.returns-then-len-objects
returns-then-len-objects c =
    let places : c.in_ok-places.places.items ≡ final_places c.in_ok-cut.cut = places_are c.in_ok-cut.cut c.in_ok-places.places.items c.objects.result.now c.arcs.result.now c.objects.ensures.value c.arcs.ensures c.in_ok-places.ensures.value in
    let same : length c.in_ok-places.places.items ≡ length c.objects-2.result.now = search rules in
    due_whole c.args.graph.now c.in_ok-cut.cut c.in_ok-put_in_order.field-0 c.in_ok-cut.ensures c.in_ok-put_in_order.ensures (ap length (sym places) ∙ same ∙ ap length c.objects-2.ensures.value)

pub returns : goal.returns
returns c =
    let places : c.in_ok-places.places.items ≡ final_places c.in_ok-cut.cut = places_are c.in_ok-cut.cut c.in_ok-places.places.items c.objects.result.now c.arcs.result.now c.objects.ensures.value c.arcs.ensures c.in_ok-places.ensures.value in
    let short : length c.in_ok-places.places.items ≡ length c.objects-2.result.now → ⊥ = search rules in
    due_loop c.args.graph.now c.in_ok-cut.cut c.told.result c.in_ok-cut.ensures c.told.ensures (λ same. short (ap length places ∙ same ∙ ap length (sym c.objects-2.ensures.value)))
