-- The cycle that is told where some places need each other.
use Rattle.std.specs.Prelude.{◌≡◌, ℕ, ◌-◌, zero, suc, ◌⊎◌, Bool, true, false, ◌&&◌, not, nat_eq, List, [], ◌∷◌, ◌++◌, filter, Option, find, if◌then◌else◌, length, slice_index, slice_index_or, slice_set}
use Rattle.std.specs.List.{list_any, range_with_len}
use Rattle.std.specs.Option.{option_map_or}
use Rattle.graph_walks.specs.Arcs.{Arc, needs, is_in}
use Rattle.graph_walks.specs.Reaching.{reaches, on_cycle}

-- the arcs that begin at none of these places
unfoldable pub off : List ℕ → List Arc → List Arc
off path arcs = filter (λ arc. not (is_in arc.0 path)) arcs

-- the lowest place from which an arc begins that lies on a cycle
unfoldable pub first_on_cycle : ℕ → List Arc → Option ℕ
first_on_cycle count arcs = find (λ place. list_any (λ arc. nat_eq arc.0 place && on_cycle arcs arc) arcs) (range_with_len 0 count)

-- the lowest place that the path's last one needs and from which the start is reached by places that aren't on the path
unfoldable pub next_on_path : ℕ → List Arc → ℕ → List ℕ → ℕ → Option ℕ
next_on_path count arcs start path last = find (λ place. needs arcs last place && reaches (off path arcs) place start) (range_with_len 0 count)

-- how the path goes on behind its last place, until it is back at the start
unfoldable pub rest_of_path : ℕ → ℕ → List Arc → ℕ → List ℕ → ℕ → List ℕ
rest_of_path zero count arcs start path last = []
rest_of_path (suc rounds) count arcs start path last =
    option_map_or
    (λ place. place ∷ (if nat_eq place start then [] else rest_of_path rounds count arcs start (place ∷ path) place))
    (next_on_path count arcs start path last)
    []

-- from the lowest place on a cycle back to itself; empty where there is no cycle
unfoldable pub told_cycle : ℕ → List Arc → List ℕ
told_cycle count arcs = option_map_or (λ start. start ∷ rest_of_path count count arcs start (start ∷ []) start) (first_on_cycle count arcs) []

-- a walk goes on to a place, unless it was visited
abbrev pub Visits : ℕ → List Bool → List (ℕ × ℕ) → List Bool → List (ℕ × ℕ) → Type 0
Visits place visited path visited' path' =
    ((slice_index_or visited place false ≡ true) × (visited' ≡ visited) × (path' ≡ path))
    ⊎ ((slice_index_or visited place false ≡ false) × (visited' ≡ slice_set visited place true) × (path' ≡ path ++ (place, 0) ∷ []))

-- a path that ends where it begins
abbrev pub IsRound : List ℕ → Type 0
IsRound path = slice_index path 0 ≡ slice_index path (length path - 1)
