-- Nulls in columns that are marked.
use Rattle.std.specs.Prelude.{ℕ, ◌+◌, Bool, List, [], ◌∷◌, Option, Some, None, if◌then◌else◌}
use Rattle.cat_model.specs.Values.{Row}
use Rattle.cat_model.specs.Tables.{column_and_row}

-- the first marked field that is null, counted from n
abbrev pub null_at : ℕ → List Bool → Row → Option ℕ
null_at n [] row = None
null_at n (m ∷ ms) [] = None
null_at n (m ∷ ms) (Some f ∷ fs) = null_at (n + 1) ms fs
null_at n (m ∷ ms) (None ∷ fs) = if m then Some n else null_at (n + 1) ms fs

-- the first row with such a field, behind that field; rows count from n
abbrev pub first_null : ℕ → List Bool → List Row → Option (ℕ × ℕ)
first_null n named [] = None
first_null n named (row ∷ rows) = column_and_row (first_null (n + 1) named rows) n (null_at 1 named row)
