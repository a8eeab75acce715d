-- The order of a dump's objects, or the loop that keeps them from one.
use Rattle.std.specs.Prelude.{ℕ, Bool, true, false, nat_eq, List, length, map, filter, filter_map, Result, Ok, Err, slice_index, slice_get, option_map}
use Rattle.std.specs.List.{range_with_len}
use Rattle.graph_parts.specs.declared.object.Obj.{Obj}
use Rattle.graph_parts.specs.declared.object.ObjId.{ObjId}
use Rattle.graph_parts.specs.Parts.{Parts}
use Rattle.graph_walks.specs.Arcs.{Arc, needs}
use Rattle.graph_walks.specs.Filling.{order_of}
use Rattle.graph_walks.specs.Telling.{told_cycle}
use Rattle.dep_sort.specs.FirstOrder.{first_places, id_places, renumbered}
use Rattle.dep_sort.specs.Cut.{CutGraph, cut}

-- objects in their order, and of each the places of those that it needs, rising
pub record Sorted : Type 0 where
  pub objects : List Obj
  pub depends : List (List ℕ)

-- the places of the cut graph in the final order, which ends early where a cycle is left
unfoldable pub final_places : CutGraph → List ℕ
final_places graph =
    map (slice_index (first_places graph.objects)) (order_of (length graph.objects) (renumbered (first_places graph.objects) graph.arcs))

-- of each of these places, the others that it needs
unfoldable pub depends_of : List Arc → List ℕ → List (List ℕ)
depends_of arcs places =
    map (λ place. filter (λ at. needs arcs place (slice_index places at)) (range_with_len 0 (length places))) places

unfoldable pub sorted : CutGraph → Sorted
sorted graph = record {
  objects = filter_map (slice_get graph.objects) (final_places graph);
  depends = depends_of graph.arcs (final_places graph);
}

-- the places of the cut graph along the cycle that is told, and their ids
unfoldable pub told_places : CutGraph → List ℕ
told_places graph =
    map (slice_index (id_places graph.objects)) (told_cycle (length graph.objects) (renumbered (id_places graph.objects) graph.arcs))

unfoldable pub loop_of : CutGraph → List ObjId
loop_of graph = filter_map (λ place. option_map (λ object. object.id) (slice_get graph.objects place)) (told_places graph)

-- what is due of a graph: its objects in order, or the loop that is left
unfoldable pub due_if : Bool → CutGraph → Result Sorted (List ObjId)
due_if true graph = Ok (sorted graph)
due_if false graph = Err (loop_of graph)

unfoldable pub due : Parts → Result Sorted (List ObjId)
due graph = due_if (nat_eq (length (final_places (cut graph))) (length (cut graph).objects)) (cut graph)
