-- What each line of a text reads as, and the rows that a text holds for a table with a known number of columns: or
-- the first row that fails, counted from 1, and why. In a row the fault of its COPY text comes before its number of fields.
use Rattle.std.specs.Prelude.{◌≡◌, ℕ, ◌+◌, List, [], ◌∷◌, length, map, Result, Ok, Err, ◌==◌, if◌then◌else◌}
use Rattle.copy_text.specs.Rows.{Field}
use Rattle.copy_text.specs.Reading.{row_of}
use Rattle.copy_text.specs.Lines.{data_lines}
use Rattle.copy_text.specs.declared.fault.CopyFault.{CopyFault}
use Rattle.data_rows.specs.declared.fault.DataFault.{DataFault}
use Rattle.data_rows.specs.declared.fault.DataFault.TheVariants.{BadRow, Fields}
use Rattle.data_rows.specs.declared.fault.RowsFault.{RowsFault}
use Rattle.data_rows.specs.declared.fault.CheckRowsError.{CheckRowsError}
use Rattle.data_rows.specs.declared.fault.CheckRowsError.TheVariants.{Fault, Memory}

-- what each line reads as, up to the end mark or the text's end: a row of at least one field, or the line's first fault
abbrev pub read_lines : List ℕ → List (Result (List Field) CopyFault)
read_lines text = map row_of (data_lines text)

-- the row, if it has a field for each column
abbrev pub checked_row : ℕ → Result (List Field) CopyFault → Result (List Field) DataFault
checked_row columns (Err fault) = Err (BadRow fault)
checked_row columns (Ok row) = if length row == columns then Ok row else Err (Fields (length row))

-- a fault of the row with this number
abbrev pub numbered : {A : Type 0} → ℕ → Result A DataFault → Result A RowsFault
numbered number (Err fault) = Err (record { row = number; fault = fault })
numbered number (Ok row) = Ok row

-- one in front of the others; the first fault counts
abbrev pub in_front : {A F : Type 0} → Result A F → Result (List A) F → Result (List A) F
in_front (Err fault) others = Err fault
in_front (Ok row) (Err fault) = Err fault
in_front (Ok row) (Ok rows) = Ok (row ∷ rows)

-- the rows of lines that read so, of which the first has this number
unfoldable pub rows_from : ℕ → ℕ → List (Result (List Field) CopyFault) → Result (List (List Field)) RowsFault
rows_from columns number [] = Ok []
rows_from columns number (read ∷ more) = in_front (numbered number (checked_row columns read)) (rows_from columns (number + 1) more)

-- the rows that a text holds for a table with this many columns
unfoldable pub rows_of : ℕ → List ℕ → Result (List (List Field)) RowsFault
rows_of columns text = rows_from columns 1 (read_lines text)

-- ---- what a call answered is what is due, unless memory ran out

abbrev pub Fails : {A : Type 0} → CheckRowsError → Result A RowsFault → Type 0
Fails Memory due = Unit {0}
Fails (Fault fault) due = due ≡ Err fault

-- the number of the rows that are due
abbrev pub GivesCount : Result ℕ CheckRowsError → Result (List (List Field)) RowsFault → Type 0
GivesCount (Ok count) due = (rows : List (List Field)) × (due ≡ Ok rows) × (count ≡ length rows)
GivesCount (Err error) due = Fails error due
