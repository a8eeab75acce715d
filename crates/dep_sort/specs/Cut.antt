-- The cut graph: what lies on a cycle is moved from tables and views to defaults and rules that are made later.
use Rattle.std.specs.Prelude.{ℕ, ◌+◌, Bool, true, false, ◌&&◌, not, nat_eq, List, [], ◌∷◌, ◌++◌, length, map, filter, Option, is_some, if◌then◌else◌}
use Rattle.std.specs.List.{list_any, enumerate_from, flat_map, position}
use Rattle.std.specs.Option.{option_and_then, option_map_or}
use Rattle.graph_parts.specs.declared.object.Obj.{Obj}
use Rattle.graph_parts.specs.declared.object.ObjId.{ObjId}
use Rattle.graph_parts.specs.declared.object.ObjKind.{ObjKind}
use Rattle.graph_parts.specs.declared.object.ObjKind.TheVariants.{View, Dummy, Default, PreData, PostData, Rule}
use Rattle.graph_parts.specs.declared.graph.Edge.{Edge}
use Rattle.graph_parts.specs.Parts.{Parts}
use Rattle.graph_walks.specs.Arcs.{Arc}
use Rattle.graph_walks.specs.Reaching.{on_cycle}

abbrev pub is_view : ObjKind → Bool
is_view View = true
is_view _ = false

abbrev pub is_default : ObjKind → Bool
is_default Default = true
is_default _ = false

abbrev pub is_rule : ObjKind → Bool
is_rule Rule = true
is_rule _ = false

abbrev pub is_pre_data : ObjKind → Bool
is_pre_data PreData = true
is_pre_data _ = false

abbrev pub is_post_data : ObjKind → Bool
is_post_data PostData = true
is_post_data _ = false

abbrev pub arc_of : Edge → Arc
arc_of edge = (edge.from, edge.to)

-- an edge that a default or a rule can take over
abbrev pub is_breakable : Edge → Bool
is_breakable edge = is_some edge.moves_to && not edge.stays

-- a breakable edge on a cycle of the whole graph
unfoldable pub breaks_if : Bool → List Edge → Edge → Bool
breaks_if true edges edge = on_cycle (map arc_of edges) (arc_of edge)
breaks_if false edges edge = false

unfoldable pub breaks : List Edge → Edge → Bool
breaks edges edge = breaks_if (is_breakable edge) edges edge

abbrev pub same_id : ObjId → ObjId → Bool
same_id a b = nat_eq a.class b.class && nat_eq a.oid b.oid

-- where an object of this id stands among those that are made
unfoldable pub made_at : List Obj → ObjId → Option ℕ
made_at made id = position (λ object. same_id id object.id) made

-- one more object is made, unless it was before
unfoldable pub made_once : List Obj → Obj → List Obj
made_once made object = if is_some (made_at made object.id) then made else made ++ object ∷ []

-- the defaults and rules that are made, in the order of the edges that break
unfoldable pub made_by : List Edge → List Edge → List Obj → List Obj
made_by all [] made = made
made_by all (edge ∷ edges) made = made_by all edges (if breaks all edge then option_map_or (made_once made) edge.moves_to made else made)

-- where the object that takes an edge over stands among those that are made
unfoldable pub taker : List Obj → Edge → Option ℕ
taker made edge = option_and_then (λ object. made_at made object.id) edge.moves_to

-- what is needed in place of an edge: what was made needs the edge's end, and what the edge began at
unfoldable pub moved_arcs : ℕ → List Obj → Edge → List Arc
moved_arcs count made edge =
    option_map_or
    (λ at. (count + at, edge.to) ∷ (count + at, edge.from) ∷ (if edge.stays then arc_of edge ∷ [] else []))
    (taker made edge)
    (arc_of edge ∷ [])

-- the places of the objects of a kind
unfoldable pub places_of : (ObjKind → Bool) → List Obj → List ℕ
places_of test objects = map (λ e. e.0) (filter (λ e. test e.1.kind) (enumerate_from 0 objects))

-- a default that is made stands before the data, a rule behind it
unfoldable pub bound_arcs : List Obj → ℕ × Obj → List Arc
bound_arcs objects made =
    (if is_default made.1.kind then map (λ bound. (bound, length objects + made.0)) (places_of is_pre_data objects) else [])
    ++ (if is_rule made.1.kind then map (λ bound. (length objects + made.0, bound)) (places_of is_post_data objects) else [])

-- a view of which an edge breaks has no body any more
unfoldable pub without_body : List Edge → ℕ × Obj → Obj
without_body edges place =
    if is_view place.1.kind && list_any (λ edge. nat_eq edge.from place.0 && breaks edges edge) edges then record place.1 { kind = Dummy } else place.1

pub record CutGraph : Type 0 where
  pub objects : List Obj
  pub arcs : List Arc

unfoldable pub made_of : Parts → List Obj
made_of graph = made_by graph.edges graph.edges []

unfoldable pub cut : Parts → CutGraph
cut graph = record {
  objects = map (without_body graph.edges) (enumerate_from 0 graph.objects) ++ made_of graph;
  arcs = flat_map (moved_arcs (length graph.objects) (made_of graph)) graph.edges ++ flat_map (bound_arcs graph.objects) (enumerate_from 0 (made_of graph));
}
