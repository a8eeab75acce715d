-- Rows by rising numbers.
use Rattle.std.specs.Prelude.{ℤ, List, [], ◌∷◌, if◌then◌else◌}
use Rattle.std.specs.Ordering.{int_cmp, is_le}

-- a row before the first with a number that isn't less
unfoldable pub placed : {R : Type 0} → (R → ℤ) → R → List R → List R
placed number row [] = row ∷ []
placed number row (r ∷ rs) = if is_le (int_cmp (number row) (number r)) then row ∷ r ∷ rs else r ∷ placed number row rs

unfoldable pub by_number : {R : Type 0} → (R → ℤ) → List R → List R
by_number number [] = []
by_number number (row ∷ rows) = placed number row (by_number number rows)
