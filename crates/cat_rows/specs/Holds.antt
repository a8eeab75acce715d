-- Which row a line holds and which rows a text holds for a table, and which fault counts: said apart from reading.
use Rattle.std.specs.Prelude.{◌≡◌, ◌≢◌, ℕ, ◌+◌, List, ◌∷◌, ◌++◌, length, Some, None, IsSome}
use Rattle.std.specs.List.{AllZip, AllByRecursion, zip}
use Rattle.copy_text.specs.Rows.{Field, SpellsRow}
use Rattle.copy_text.specs.Reading.{IsFirstFault}
use Rattle.copy_text.specs.Lines.{data_lines}
use Rattle.cat_rows.specs.declared.table.SysTable.{SysTable}
use Rattle.cat_rows.specs.declared.kind.ColKind.{ColKind}
use Rattle.cat_rows.specs.declared.cell.Cell.{Cell}
use Rattle.cat_rows.specs.declared.fault.RowFault.{RowFault}
use Rattle.cat_rows.specs.declared.fault.RowFault.TheVariants.{Copy, Columns, BadCell}
use Rattle.cat_rows.specs.declared.fault.TableFault.{TableFault}
use Rattle.cat_rows.specs.Kinds.{columns}
use Rattle.cat_rows.specs.Cells.{cell_of}

-- ---- a line

-- a column's kind and the field in it
abbrev pub Column : Type 0
Column = ColKind × Field

abbrev pub SpellsCell : Column → Cell → Type 0
SpellsCell column cell = cell_of column.0 column.1 ≡ Some cell

-- the line is COPY text with a field for each kind, and each field is the cell of its kind
pub record HoldsRow (kinds : List ColKind) (line : List ℕ) (row : List Cell) : Type 0 where
  pub fields : List Field
  pub copied : SpellsRow fields line
  pub as_many : length fields ≡ length kinds
  pub each : AllZip SpellsCell (zip kinds fields) row

-- column n, counted from 1, is the first whose field is no cell of its kind
pub record IsFirstBad (all : List Column) (n : ℕ) (kind : ColKind) : Type 0 where
  pub before : List Column
  pub field : Field
  pub after : List Column
  pub split : all ≡ before ++ (kind, field) ∷ after
  pub number : n ≡ length before + 1
  pub bad : cell_of kind field ≡ None
  pub good : AllByRecursion (λ column. IsSome (cell_of column.0 column.1)) before

-- what is wrong with a line: first its COPY text; then the number of its fields; then the first bad column
abbrev pub IsRowFault : List ColKind → List ℕ → RowFault → Type 0
IsRowFault kinds line (Copy fault) = IsFirstFault line fault
IsRowFault kinds line (Columns n) = (fields : List Field) × SpellsRow fields line × (n ≡ length fields) × (n ≢ length kinds)
IsRowFault kinds line (BadCell n kind) = (fields : List Field) × SpellsRow fields line × (length fields ≡ length kinds) × IsFirstBad (zip kinds fields) n kind

-- ---- a text

-- the text holds these rows, one a line
abbrev pub HoldsRows : SysTable → List ℕ → List (List Cell) → Type 0
HoldsRows table text rows = AllZip (λ line row. HoldsRow (columns table) line row) (data_lines text) rows

-- the line with this number, counted from 1, is the first without a row, and this is its fault
pub record IsFirstFaultOf (table : SysTable) (text : List ℕ) (first : TableFault) : Type 0 where
  pub before : List (List ℕ)
  pub line : List ℕ
  pub after : List (List ℕ)
  pub split : data_lines text ≡ before ++ line ∷ after
  pub number : first.line ≡ length before + 1
  pub fault : IsRowFault (columns table) line first.fault
  pub good : AllByRecursion (λ line. (row : List Cell) × HoldsRow (columns table) line row) before
