-- Rows that were read can be written.
use Rattle.std.proofs.Common.{◌≡◌, ℕ, List, [], ◌∷◌, length, map, Ok, refl, ap₂, arith}
use Rattle.std.specs.List.{All, AllZip, AllByRecursion, zip}
use Rattle.std.proofs.lemmas.List.Elements.{All-head, All-tail}
use Rattle.copy_text.specs.Rows.{Field, IsField, IsRow, SpellsRow}
use Rattle.copy_text.specs.Lines.{data_lines}
use Rattle.cat_rows.specs.declared.table.SysTable.{SysTable}
use Rattle.cat_rows.specs.declared.kind.ColKind.{ColKind}
use Rattle.cat_rows.specs.declared.cell.Cell.{Cell}
use Rattle.cat_rows.specs.Kinds.{columns}
use Rattle.cat_rows.specs.Cells.{kind_of, IsCell}
use Rattle.cat_rows.specs.Reading.{table_of}
use Rattle.cat_rows.specs.Holds.{SpellsCell, HoldsRow}
use Rattle.cat_rows.specs.Writing.{IsRowOf, AreRowsOf}
use Rattle.cat_rows.proofs.CellLemmas.{ListsWritten, cell_of-kind, cell_can_be_written}
use Rattle.cat_rows.proofs.HoldLemmas.{Copied, reading_rows}
use Rattle.cat_rows.proofs.WritingLemmas.{NameTests}

-- the fields that a line spells can be written
abbrev FieldsWritten : Type 0
FieldsWritten = (row : List Field) (line : List ℕ) → SpellsRow row line → IsRow row

kinds_of : (kinds : List ColKind) (fields : List Field) (row : List Cell) → length fields ≡ length kinds → AllZip SpellsCell (zip kinds fields) row → map kind_of row ≡ kinds
kinds_of [] fields [] same each = refl
kinds_of [] fields (cell ∷ row) same each = absurd each
kinds_of (kind ∷ kinds) [] row same each = absurd (omega arith)
kinds_of (kind ∷ kinds) (field ∷ fields) [] same each = absurd each
kinds_of (kind ∷ kinds) (field ∷ fields) (cell ∷ row) same each =
    let first = cell_of-kind kind field cell each.0 in
    let rest = kinds_of kinds fields row (omega arith) each.1 in
    ap₂ (λ (k : ColKind) (ks : List ColKind). k ∷ ks) first rest

cells_valid : NameTests → ListsWritten → (kinds : List ColKind) (fields : List Field) (row : List Cell) → length fields ≡ length kinds → All IsField fields → AllZip SpellsCell (zip kinds fields) row → AllByRecursion IsCell row
cells_valid names lists [] fields [] same valid each = tt
cells_valid names lists [] fields (cell ∷ row) same valid each = absurd each
cells_valid names lists (kind ∷ kinds) [] row same valid each = absurd (omega arith)
cells_valid names lists (kind ∷ kinds) (field ∷ fields) [] same valid each = absurd each
cells_valid names lists (kind ∷ kinds) (field ∷ fields) (cell ∷ row) same valid each =
    (cell_can_be_written names lists kind field cell (All-head IsField field fields valid) each.0, cells_valid names lists kinds fields row (omega arith) (All-tail IsField field fields valid) each.1)

row_valid : NameTests → ListsWritten → FieldsWritten → (table : SysTable) (line : List ℕ) (row : List Cell) → HoldsRow (columns table) line row → IsRowOf table row
row_valid names lists fields table line row holds = record {
  kinds = kinds_of (columns table) holds.fields row holds.as_many holds.each;
  cells = cells_valid names lists (columns table) holds.fields row holds.as_many (fields holds.fields line holds.copied).each holds.each;
}

rows_valid : NameTests → ListsWritten → FieldsWritten → (table : SysTable) (ls : List (List ℕ)) (rows : List (List Cell)) → AllZip (λ line row. HoldsRow (columns table) line row) ls rows → AreRowsOf table rows
rows_valid names lists fields table [] [] holds = tt
rows_valid names lists fields table [] (row ∷ rows) holds = absurd holds
rows_valid names lists fields table (line ∷ ls) [] holds = absurd holds
rows_valid names lists fields table (line ∷ ls) (row ∷ rows) holds =
    (row_valid names lists fields table line row holds.0, rows_valid names lists fields table ls rows holds.1)

pub rows_can_be_written : Copied → NameTests → ListsWritten → FieldsWritten → (table : SysTable) (text : List ℕ) (rows : List (List Cell)) → table_of table text ≡ Ok rows → AreRowsOf table rows
rows_can_be_written told names lists fields table text rows read =
    rows_valid names lists fields table (data_lines text) rows ((reading_rows told table text rows).0 read)
