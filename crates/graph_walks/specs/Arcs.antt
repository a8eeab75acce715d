-- Places, counted from 0, and arcs among them: the place at which an arc begins needs the one at which it ends.
use Rattle.std.specs.Prelude.{ℕ, ◌<◌, Bool, ◌&&◌, nat_eq, List, filter, All}
use Rattle.std.specs.List.{list_any}

abbrev pub Arc : Type 0
Arc = ℕ × ℕ

-- whether one place needs another
abbrev pub needs : List Arc → ℕ → ℕ → Bool
needs arcs a b = list_any (λ arc. nat_eq arc.0 a && nat_eq arc.1 b) arcs

-- the arcs that begin at a place
abbrev pub arcs_from : ℕ → List Arc → List Arc
arcs_from place arcs = filter (λ arc. nat_eq arc.0 place) arcs

-- whether a place is one of these
abbrev pub is_in : ℕ → List ℕ → Bool
is_in place places = list_any (nat_eq place) places

-- the ends of the arcs are among the first places
abbrev pub AreWithin : ℕ → List Arc → Type 0
AreWithin count arcs = All (λ arc. (arc.0 < count) × (arc.1 < count)) arcs
