-- What a place reaches: itself, what it needs, what that needs, and so on.
use Rattle.std.specs.Prelude.{ℕ, zero, suc, Bool, ◌&&◌, not, List, [], ◌∷◌, ◌++◌, length, map, filter}
use Rattle.graph_walks.specs.Arcs.{Arc, is_in}

-- what these places need that isn't among them
unfoldable pub needed_next : List Arc → List ℕ → List ℕ
needed_next arcs places = map (λ arc. arc.1) (filter (λ arc. is_in arc.0 places && not (is_in arc.1 places)) arcs)

-- these places, and what is found from them in some rounds
unfoldable pub found_from : ℕ → List Arc → List ℕ → List ℕ
found_from zero arcs places = places
found_from (suc rounds) arcs places = found_from rounds arcs (places ++ needed_next arcs places)

-- whether one place reaches another; after as many rounds as there are arcs nothing is left to be found
unfoldable pub reaches : List Arc → ℕ → ℕ → Bool
reaches arcs a b = is_in b (found_from (length arcs) arcs (a ∷ []))

-- an arc lies on a cycle where its end reaches its beginning
unfoldable pub on_cycle : List Arc → Arc → Bool
on_cycle arcs arc = reaches arcs arc.1 arc.0
