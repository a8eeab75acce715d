-- What a place leads to, said by sets of places.
use Rattle.std.specs.Prelude.{◌≡◌, ℕ, Bool, true, List}
use Rattle.graph_walks.specs.Arcs.{Arc, needs}

-- a set of places that holds what each of them needs
abbrev pub IsClosed : List Arc → (ℕ → Bool) → Type 0
IsClosed arcs set = (a b : ℕ) → needs arcs a b ≡ true → set a ≡ true → set b ≡ true

-- one place leads to another: each such set that holds the one holds the other
pub record Leads (arcs : List Arc) (a b : ℕ) : Type 0 where
  pub into : (set : ℕ → Bool) → IsClosed arcs set → set a ≡ true → set b ≡ true
