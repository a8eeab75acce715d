-- What an order and a loop are, whichever way they were found, and what becomes of the edges.
use Rattle.std.specs.Prelude.{◌≡◌, ◌&&◌, Bool, false, ℕ, ◌+◌, ◌-◌, ◌<◌, true, nat_eq, List, [], All, length, filter, filter_map, option_map, slice_index, slice_index_or, slice_get, MatchOption}
use Rattle.std.specs.List.{IsDistinct, list_any, range_with_len}
use Rattle.std.specs.Option.{option_map_or}
use Rattle.graph_parts.specs.declared.object.Obj.{Obj}
use Rattle.graph_parts.specs.declared.object.ObjId.{ObjId}
use Rattle.graph_parts.specs.declared.graph.Edge.{Edge}
use Rattle.graph_parts.specs.Parts.{Parts}
use Rattle.graph_walks.specs.Arcs.{needs, is_in}
use Rattle.dep_sort.specs.Cut.{CutGraph, same_id, is_default, is_rule, is_pre_data, is_post_data, breaks, taker, places_of, made_of, cut}
use Rattle.dep_sort.specs.Ordering.{Sorted}

-- the objects of a graph, each once, each behind all that it needs, with the places of these
pub record IsOrder (graph : CutGraph) (order : Sorted) : Type 0 where
  pub places : List ℕ
  pub objects_are : order.objects ≡ filter_map (slice_get graph.objects) places
  pub count : length order.objects ≡ length graph.objects
  pub within : All (λ place. place < length graph.objects) places
  pub once : IsDistinct nat_eq places
  pub whole : (place : ℕ) → place < length graph.objects → is_in place places ≡ true
  pub behind : (i j : ℕ) → i < length places → j < length places → needs graph.arcs (slice_index places i) (slice_index places j) ≡ true → j < i
  pub depends_are : (i : ℕ) → i < length places → slice_index_or order.depends i [] ≡ filter (λ j. needs graph.arcs (slice_index places i) (slice_index places j)) (range_with_len 0 (length places))

-- the ids along a path of a graph on which each object needs the next, from one back to itself
pub record IsLoop (graph : CutGraph) (path : List ObjId) : Type 0 where
  pub places : List ℕ
  pub path_is : path ≡ filter_map (λ place. option_map (λ object. object.id) (slice_get graph.objects place)) places
  pub count : length path ≡ length places
  pub within : All (λ place. place < length graph.objects) places
  pub long : 1 < length places
  pub steps : (i : ℕ) → i + 1 < length places → needs graph.arcs (slice_index places i) (slice_index places (i + 1)) ≡ true
  pub back : slice_index places 0 ≡ slice_index places (length places - 1)

-- whether an object of this id can take an edge over
abbrev pub moves_to_id : ObjId → Edge → Bool
moves_to_id id edge = option_map_or (λ object. same_id id object.id) edge.moves_to false

-- whether an edge breaks that an object of this id can take over
abbrev pub breaks_for : List Edge → ObjId → Bool
breaks_for edges id = list_any (λ edge. breaks edges edge && moves_to_id id edge) edges

-- an edge is there in the cut graph, or the object that takes it over needs its end and its beginning
abbrev pub IsKept : Parts → Edge → Type 0
IsKept graph edge =
    MatchOption (taker (made_of graph) edge)
    (needs (cut graph).arcs edge.from edge.to ≡ true)
    (λ at. (needs (cut graph).arcs (length graph.objects + at) edge.to ≡ true) × (needs (cut graph).arcs (length graph.objects + at) edge.from ≡ true))

-- what is made stands on its side of the data: a default before them, as their boundary needs it, and a rule behind them
pub record IsOnItsSide (graph : Parts) (at : ℕ) (object : Obj) : Type 0 where
  pub before : is_default object.kind ≡ true → All (λ bound. needs (cut graph).arcs bound (length graph.objects + at) ≡ true) (places_of is_pre_data graph.objects)
  pub behind : is_rule object.kind ≡ true → All (λ bound. needs (cut graph).arcs (length graph.objects + at) bound ≡ true) (places_of is_post_data graph.objects)
