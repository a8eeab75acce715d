-- The order that is filled from its end, in which each place stands behind all that it needs.
use Rattle.std.specs.Prelude.{ℕ, zero, suc, Bool, not, nat_eq, List, [], ◌∷◌, ◌++◌, reverse, filter, Option, find}
use Rattle.std.specs.List.{list_any, range_with_len}
use Rattle.std.specs.Option.{option_map_or}
use Rattle.graph_walks.specs.Arcs.{Arc, needs}

-- whether none of the places that are left needs this one
unfoldable pub is_free : List Arc → List ℕ → ℕ → Bool
is_free arcs left place = not (list_any (λ other. needs arcs other place) left)

-- the last of the places that are left which none of them needs
unfoldable pub last_free : List Arc → List ℕ → Option ℕ
last_free arcs left = find (is_free arcs left) (reverse left)

unfoldable pub without : ℕ → List ℕ → List ℕ
without place left = filter (λ other. not (nat_eq other place)) left

-- its last member is the last free place, and before it stands the order of the others; it ends where none is free
unfoldable pub filled : ℕ → List Arc → List ℕ → List ℕ
filled zero arcs left = []
filled (suc rounds) arcs left = option_map_or (λ place. filled rounds arcs (without place left) ++ place ∷ []) (last_free arcs left) []

-- the order of the first places
unfoldable pub order_of : ℕ → List Arc → List ℕ
order_of count arcs = filled count arcs (range_with_len 0 count)
