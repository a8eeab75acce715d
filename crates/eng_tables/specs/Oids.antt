-- The oid of a new object: the least from 16384 up that isn't used. 4294967295 is given to none.
use Rattle.std.specs.Prelude.{◌≡◌, ℕ, ◌<◌, ◌≤◌, true, false, Option, Some, None}
use Rattle.std.specs.FinSet.{FinSet, contains, insert}
use Rattle.std.specs.Ordering.{nat_cmp}

abbrev pub Oids : Type 0
Oids = FinSet nat_cmp

-- the least oid that isn't used, or that all are
abbrev pub IsLeastUnused : Oids → Option ℕ → Type 0
IsLeastUnused used (Some oid) = (16384 ≤ oid) × (contains used oid ≡ false) × ((other : ℕ) → 16384 ≤ other → other < oid → contains used other ≡ true)
IsLeastUnused used None = (other : ℕ) → 16384 ≤ other → other < 4294967295 → contains used other ≡ true

abbrev pub with_oid : Oids → Option ℕ → Oids
with_oid used (Some oid) = insert used oid
with_oid used None = used
