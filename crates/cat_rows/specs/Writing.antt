-- Writing a table: the one text of its rows, in the table's order.
use Rattle.std.specs.Prelude.{◌≡◌, ℕ, List, [], ◌∷◌, ◌++◌, map, Ok}
use Rattle.std.specs.List.{flat_map, AllByRecursion}
use Rattle.copy_text.specs.Marks.{newline}
use Rattle.copy_text.specs.Rows.{spell_row}
use Rattle.cat_rows.specs.declared.table.SysTable.{SysTable}
use Rattle.cat_rows.specs.declared.cell.Cell.{Cell}
use Rattle.cat_rows.specs.Kinds.{columns}
use Rattle.cat_rows.specs.Cells.{IsCell, kind_of, field_of}
use Rattle.cat_rows.specs.Order.{IsInOrder}
use Rattle.cat_rows.specs.Reading.{table_of}

-- a row that can be written for a table: its cells are of the kinds of the table's columns
pub record IsRowOf (table : SysTable) (row : List Cell) : Type 0 where
  pub kinds : map kind_of row ≡ columns table
  pub cells : AllByRecursion IsCell row

abbrev pub AreRowsOf : SysTable → List (List Cell) → Type 0
AreRowsOf table rows = AllByRecursion (λ row. IsRowOf table row) rows

-- one line for each row
abbrev pub text_of : List (List Cell) → List ℕ
text_of rows = flat_map (λ row. spell_row (map field_of row) ++ newline ∷ []) rows

-- A table's rows were written behind old: they stand in the table's order, and what was written reads as them.
pub record IsWritten (table : SysTable) (rows written : List (List Cell)) (old new : List ℕ) : Type 0 where
  pub order : IsInOrder table rows written
  pub text : new ≡ old ++ text_of written
  pub reads : table_of table (text_of written) ≡ Ok written
