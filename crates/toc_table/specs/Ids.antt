-- Sets of dump ids.
use Rattle.std.specs.Prelude.{◌≡◌, ℕ, Bool, false, ◌||◌, ◌==◌, List, [], ◌∷◌}
use Rattle.std.specs.Ordering.{nat_cmp}
use Rattle.std.specs.BTreeSet.{BTreeSet, contains}

abbrev pub is_among : List ℕ → ℕ → Bool
is_among [] k = false
is_among (i ∷ ids) k = i == k || is_among ids k

-- the set holds these numbers and no others
abbrev pub AreIds : BTreeSet ℕ → List ℕ → Type 0
AreIds set ids = (k : ℕ) → contains nat_cmp set k ≡ is_among ids k
