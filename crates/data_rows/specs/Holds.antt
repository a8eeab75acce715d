-- Which rows a text holds for a table with a known number of columns, and which row is the first that fails: said
-- apart from reading, by what a line spells and which fault is its first.
use Rattle.std.specs.Prelude.{◌≡◌, ◌≢◌, ℕ, ◌+◌, List, ◌∷◌, ◌++◌, length, All}
use Rattle.std.specs.List.{AllZip}
use Rattle.copy_text.specs.Rows.{Field, SpellsRow}
use Rattle.copy_text.specs.Reading.{IsFirstFault}
use Rattle.copy_text.specs.Lines.{data_lines}
use Rattle.data_rows.specs.declared.fault.DataFault.{DataFault}
use Rattle.data_rows.specs.declared.fault.DataFault.TheVariants.{BadRow, Fields}
use Rattle.data_rows.specs.declared.fault.RowsFault.{RowsFault}

-- the line spells the row, which has a field for each column
abbrev pub HoldsRow : ℕ → List Field → List ℕ → Type 0
HoldsRow columns row line = SpellsRow row line × (length row ≡ columns)

-- the text holds these rows, one a line
abbrev pub HoldsRows : ℕ → List (List Field) → List ℕ → Type 0
HoldsRows columns rows text = AllZip (HoldsRow columns) rows (data_lines text)

-- what is wrong with a line: it spells no row, or one with another number of fields
abbrev pub IsFault : ℕ → List ℕ → DataFault → Type 0
IsFault columns line (BadRow fault) = IsFirstFault line fault
IsFault columns line (Fields n) = (row : List Field) × SpellsRow row line × (n ≡ length row) × (n ≢ columns)

-- the line with this number, counted from 1, fails, and those before it hold rows
pub record FailsFirst (columns : ℕ) (text : List ℕ) (first : RowsFault) : Type 0 where
  pub before : List (List ℕ)
  pub line : List ℕ
  pub after : List (List ℕ)
  pub split : data_lines text ≡ before ++ line ∷ after
  pub number : first.row ≡ length before + 1
  pub fault : IsFault columns line first.fault
  pub good : All (λ earlier. (row : List Field) × HoldsRow columns row earlier) before
