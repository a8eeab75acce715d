-- Objects at places.
use Rattle.std.proofs.Common.{◌≡◌, ℕ, ◌+◌, ◌<◌, List, [], ◌∷◌, ◌++◌, length, get_or, take, Option, Some, refl, ap, ◌∙◌}
use Rattle.std.specs.Prelude.{filter_map, option_map, slice_get}
use Rattle.std.proofs.lemmas.List.{take_more}
use Rattle.std.proofs.lemmas.List.Elements.{filter_map-append}
use Rattle.graph_parts.specs.declared.object.Obj.{Obj}
use Rattle.dep_sort.specs.Cut.{CutGraph}
use Rattle.dep_sort.specs.Ordering.{told_places, loop_of}

one_picked : {Y : Type 0} (h : ℕ → Option Y) (place : ℕ) (y : Y) → h place ≡ Some y → filter_map h (place ∷ []) ≡ y ∷ []
one_picked h place y is = rw is refl

pub picked_more : {Y : Type 0} (h : ℕ → Option Y) (places : List ℕ) (k : ℕ) (y : Y) → k < length places → h (get_or places k 0) ≡ Some y → filter_map h (take (k + 1) places) ≡ filter_map h (take k places) ++ y ∷ []
picked_more {Y} h places k y low is =
    ap (filter_map h) (take_more places k 0 low)
    ∙ filter_map-append h (take k places) (get_or places k 0 ∷ [])
    ∙ ap (λ (l : List Y). filter_map h (take k places) ++ l) (one_picked h (get_or places k 0) y is)

pub loop_is : (graph : CutGraph) (objects : List Obj) (places : List ℕ) → objects ≡ graph.objects → places ≡ told_places graph → filter_map (λ place. option_map (λ (object : Obj). object.id) (slice_get objects place)) places ≡ loop_of graph
unfolding loop_of
loop_is graph objects places same is =
    ap (λ (l : List Obj). filter_map (λ place. option_map (λ (object : Obj). object.id) (slice_get l place)) places) same
    ∙ ap (filter_map (λ place. option_map (λ (object : Obj). object.id) (slice_get graph.objects place))) is
