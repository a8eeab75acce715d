use Rattle.std.proofs.Common.{◌≡◌, List, Vec, Global, ap, ◌∙◌}
use Rattle.std.specs.Prelude.{filter_map, option_map, slice_get}
use Rattle.std.proofs.lemmas.Result.{IfOk-weaker}
use Rattle.graph_parts.specs.declared.object.Obj.{Obj}
use Rattle.graph_parts.specs.declared.object.ObjId.{ObjId}
use Rattle.graph_walks.specs.Arcs.{Arc}
use Rattle.dep_sort.specs.Cut.{CutGraph}
use Rattle.dep_sort.specs.Ordering.{told_places, loop_of}
use Rattle.dep_sort.proofs.Picking.{loop_is}
use Rattle.dep_sort.proofs.ordering.loop_ids.Goals as goal

pub returns : goal.returns
returns c =
    let graph : CutGraph = c.args.cut.now in
    let places : c.deref.result.now ≡ told_places graph =
    c.deref.ensures.value
    ∙ c.in_ok-places.ensures.value
    ∙ ap (λ (l : List Obj). told_places (record { objects = l; arcs = c.arcs.result.now })) c.objects.ensures.value
    ∙ ap (λ (l : List Arc). told_places (record { objects = graph.objects; arcs = l })) c.arcs.ensures in
    IfOk-weaker c.ids_at.result (λ (v : Vec ObjId Global). v.items ≡ filter_map (λ place. option_map (λ (o : Obj). o.id) (slice_get c.objects-2.result.now place)) c.deref.result.now) (λ (v : Vec ObjId Global). v.items ≡ loop_of graph)
    (λ v is. is ∙ loop_is graph c.objects-2.result.now c.deref.result.now c.objects-2.ensures.value places)
    c.ids_at.ensures
