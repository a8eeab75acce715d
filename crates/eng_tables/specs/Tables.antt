-- What a table of rows by oid and by key says: the key of a row, which oid and key are taken, the oid that comes next,
-- and what a new row in place of another leaves.
use Rattle.std.specs.Prelude.{◌≡◌, ◌↔◌, ◌⊎◌, ℕ, ◌<◌, ◌≤◌, Option, Some, None, IsSome}
use Rattle.std.specs.FinMap.{FinMap, get, insert}
use Rattle.std.specs.Option.{option_map}
use Rattle.std.specs.Ordering.{nat_cmp}
use Rattle.cat_model.specs.declared.key.Key.{Key}

-- rows by oid, each with its key
abbrev pub Rows : Type 0 → Type 0
Rows R = FinMap nat_cmp (Key × R)

module _ {R : Type 0} where
  -- the key of the row with an oid
  abbrev pub key_at : Rows R → ℕ → Option Key
  key_at rows oid = option_map (λ e. e.0) (get rows oid)

  -- the row with an oid
  abbrev pub row_at : Rows R → ℕ → Option R
  row_at rows oid = option_map (λ e. e.1) (get rows oid)

  -- a row has the oid, or the key
  abbrev pub IsTaken : Rows R → ℕ → Key → Type 0
  IsTaken rows oid key = IsSome (get rows oid) ⊎ ((other : ℕ) × (key_at rows other ≡ Some key))

  -- each key leads to the oid of the row that has it, and to none where no row has it
  abbrev pub AreNames : (Key → Option ℕ) → Rows R → Type 0
  AreNames names rows = (key : Key) (oid : ℕ) → (names key ≡ Some oid) ↔ (key_at rows oid ≡ Some key)

  -- the least oid that a row has and that is at least a number, or that there is none
  abbrev pub IsNext : ℕ → Rows R → Option ℕ → Type 0
  IsNext from rows (Some oid) = (from ≤ oid) × IsSome (get rows oid) × ((other : ℕ) → from ≤ other → other < oid → get rows other ≡ None)
  IsNext from rows None = (other : ℕ) → from ≤ other → get rows other ≡ None

  abbrev pub with_row : Rows R → ℕ → R → Option (Key × R) → Rows R
  with_row rows oid row (Some old) = insert rows oid (old.0, row)
  with_row rows oid row None = rows

  -- a new row in place of the one with an oid; nothing where none has it
  abbrev pub replaced : Rows R → ℕ → R → Rows R
  replaced rows oid row = with_row rows oid row (get rows oid)
