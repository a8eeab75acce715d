-- The order in which a table's rows are written: by rising first column, or by the columns that a table names;
-- rows that tie keep their order, so pg_depend, which names none, stays as it was read.
use Rattle.std.specs.Prelude.{◌≡◌, ℕ, zero, suc, Bool, List, [], ◌∷◌, ℤ, pos, filter, All}
use Rattle.std.specs.Ordering.{is_lt, ordering_then, int_cmp}
use Rattle.std.specs.declared.cmp.Ordering.{Ordering}
use Rattle.std.specs.List.Sorted.{IsPermutation, IsSortedBy, ties}
use Rattle.cat_rows.specs.declared.table.SysTable.{SysTable}
use Rattle.cat_rows.specs.declared.table.SysTable.TheVariants.{PgEnum, PgAttribute, PgDescription, PgDepend}
use Rattle.cat_rows.specs.declared.cell.Cell.{Cell}
use Rattle.cat_rows.specs.declared.cell.Cell.TheVariants as cells

-- the number that a cell holds
abbrev pub number : Cell → ℤ
number (cells.Oid n) = pos n
number (cells.Int n) = n
number (cells.Bool b) = pos 0
number (cells.Name name) = pos 0
number (cells.Text text) = pos 0
number (cells.NullText text) = pos 0
number (cells.Letter b) = pos 0
number (cells.Acl acl) = pos 0

-- the number in a column, counted from 0
abbrev pub number_at : ℕ → List Cell → ℤ
number_at n [] = pos 0
number_at zero (cell ∷ more) = number cell
number_at (suc n) (cell ∷ more) = number_at n more

-- the numbers that say where a row stands, the first that differs
abbrev pub key_of : SysTable → List Cell → ℤ × ℤ × ℤ
key_of PgEnum row = (number_at 1 row, number_at 2 row, pos 0)
key_of PgAttribute row = (number_at 0 row, number_at 1 row, pos 0)
key_of PgDescription row = (number_at 1 row, number_at 0 row, number_at 2 row)
key_of PgDepend row = (pos 0, pos 0, pos 0)
key_of table row = (number_at 0 row, pos 0, pos 0)

abbrev pub key_cmp : ℤ × ℤ × ℤ → ℤ × ℤ × ℤ → Ordering
key_cmp a b = ordering_then (ordering_then (int_cmp a.0 b.0) (int_cmp a.1 b.1)) (int_cmp a.2 b.2)

-- whether a row's key is below another's
abbrev pub comes_before : SysTable → List Cell → List Cell → Bool
comes_before table row other = is_lt (key_cmp (key_of table row) (key_of table other))

-- Written is the rows in the table's order: the same rows, none of a lower key than the one before it, and those that
-- tie with a row in the order that they had.
pub record IsInOrder (table : SysTable) (rows written : List (List Cell)) : Type 0 where
  pub permutation : IsPermutation rows written
  pub rising : IsSortedBy (comes_before table) written
  pub stable : All (λ row. filter (ties (comes_before table) row) written ≡ filter (ties (comes_before table) row) rows) rows
