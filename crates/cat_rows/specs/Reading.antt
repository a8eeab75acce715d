-- Reading a table's text: the cells of each line by the kinds of the columns, or the first line without them and why.
-- In a line the fault of its COPY text counts first, then the number of its fields, then its first bad column.
use Rattle.std.specs.Prelude.{◌≡◌, ℕ, ◌+◌, List, [], ◌∷◌, length, Option, Some, None, Result, Ok, Err, ◌==◌, if◌then◌else◌}
use Rattle.copy_text.specs.Rows.{Field}
use Rattle.copy_text.specs.Reading.{row_of}
use Rattle.copy_text.specs.Lines.{data_lines}
use Rattle.copy_text.specs.declared.fault.CopyFault.{CopyFault}
use Rattle.cat_rows.specs.declared.table.SysTable.{SysTable}
use Rattle.cat_rows.specs.declared.kind.ColKind.{ColKind}
use Rattle.cat_rows.specs.declared.cell.Cell.{Cell}
use Rattle.cat_rows.specs.declared.fault.RowFault.{RowFault}
use Rattle.cat_rows.specs.declared.fault.RowFault.TheVariants.{Copy, Columns, BadCell}
use Rattle.cat_rows.specs.declared.fault.TableFault.{TableFault}
use Rattle.cat_rows.specs.declared.fault.ReadCellsError.{ReadCellsError}
use Rattle.cat_rows.specs.declared.fault.ReadCellsError.TheVariants as cells_errors
use Rattle.cat_rows.specs.declared.fault.ReadTableError.{ReadTableError}
use Rattle.cat_rows.specs.declared.fault.ReadTableError.TheVariants as table_errors
use Rattle.cat_rows.specs.Kinds.{columns}
use Rattle.cat_rows.specs.Cells.{cell_of}

infixl 10 ◌>>=◌
abbrev pub ◌>>=◌ : {A B F : Type 0} → Result A F → (A → Result B F) → Result B F
(Ok x) >>= f = f x
(Err e) >>= f = Err e

-- ---- a line

-- the fields that are left of a row, and the number of the first of them, counted from 1
pub record Place : Type 0 where
  pub column : ℕ
  pub fields : List Field

-- a cell and the place behind it; None is a bad column
abbrev pub cell_before : ColKind → ℕ → List Field → Option Cell → Result (Cell × Place) RowFault
cell_before kind column more None = Err (BadCell column kind)
cell_before kind column more (Some cell) = Ok (cell, record { column = column + 1; fields = more })

abbrev pub first_cell : ColKind → ℕ → List Field → Result (Cell × Place) RowFault
first_cell kind column [] = Err (BadCell column kind)
first_cell kind column (field ∷ more) = cell_before kind column more (cell_of kind field)

-- the cell of a kind at a place, and the place behind it, or the bad column
unfoldable pub cell_at : ColKind → Place → Result (Cell × Place) RowFault
cell_at kind place = first_cell kind place.column place.fields

-- the cells of these kinds from a place on, or the first bad column
unfoldable pub cells_at : List ColKind → Place → Result (List Cell) RowFault
cells_at [] place = Ok []
cells_at (kind ∷ more) place = do
  cell ← cell_at kind place
  others ← cells_at more cell.1
  Ok (cell.0 ∷ others)

abbrev pub copied : {A : Type 0} → Result A CopyFault → Result A RowFault
copied (Ok x) = Ok x
copied (Err fault) = Err (Copy fault)

-- the first place of a line of this many fields
unfoldable pub row_start : ℕ → List ℕ → Result Place RowFault
row_start width line = do
  fields ← copied (row_of line)
  if length fields == width then Ok (record { column = 1; fields = fields }) else Err (Columns (length fields))

-- the cells of a line, or its first fault
unfoldable pub cells_of : List ColKind → List ℕ → Result (List Cell) RowFault
cells_of kinds line = do
  place ← row_start (length kinds) line
  cells_at kinds place

-- ---- a text

abbrev pub at_line : {A : Type 0} → ℕ → Result A RowFault → Result A TableFault
at_line n (Ok x) = Ok x
at_line n (Err fault) = Err (record { line = n; fault = fault })

-- the rows of lines, of which the first has this number, or the first line without a row and its fault
unfoldable pub table_from : List ColKind → ℕ → List (List ℕ) → Result (List (List Cell)) TableFault
table_from kinds n [] = Ok []
table_from kinds n (line ∷ more) = do
  row ← at_line n (cells_of kinds line)
  others ← table_from kinds (n + 1) more
  Ok (row ∷ others)

-- the rows that a text holds for a table; lines count from 1
unfoldable pub table_of : SysTable → List ℕ → Result (List (List Cell)) TableFault
table_of table text = table_from (columns table) 1 (data_lines text)

-- ---- what a call returned, seen by view, is what reading gives, unless memory ran out

abbrev pub FailsRow : {Y : Type 0} → ReadCellsError → Result Y RowFault → Type 0
FailsRow cells_errors.Memory read = Unit {0}
FailsRow (cells_errors.Fault f) read = read ≡ Err f

abbrev pub GivesRow : {X Y : Type 0} → (X → Y) → Result X ReadCellsError → Result Y RowFault → Type 0
GivesRow view (Ok x) read = read ≡ Ok (view x)
GivesRow view (Err e) read = FailsRow e read

abbrev pub FailsTable : {Y : Type 0} → ReadTableError → Result Y TableFault → Type 0
FailsTable table_errors.Memory read = Unit {0}
FailsTable (table_errors.Fault f) read = read ≡ Err f

abbrev pub GivesTable : {X Y : Type 0} → (X → Y) → Result X ReadTableError → Result Y TableFault → Type 0
GivesTable view (Ok x) read = read ≡ Ok (view x)
GivesTable view (Err e) read = FailsTable e read
