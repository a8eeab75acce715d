-- What a dump puts out of the text of a table's rows: a line for each row, in the row's one spelling, and behind the last
-- one the line \. and two empty lines. Where a row fails it is the lines of the rows before it, and that fault.
use Rattle.std.specs.Prelude.{ℕ, ◌+◌, List, [], ◌∷◌, ◌++◌, Option, Some, None, Result, Ok, Err, codes}
use Rattle.copy_text.specs.Marks.{newline}
use Rattle.copy_text.specs.Rows.{Field, spell_row}
use Rattle.copy_text.specs.declared.fault.CopyFault.{CopyFault}
use Rattle.data_rows.specs.declared.fault.DataFault.{DataFault}
use Rattle.data_rows.specs.declared.fault.RowsFault.{RowsFault}
use Rattle.data_rows.specs.Rows.{checked_row, read_lines}

-- what is put out, of how many rows, and the fault that ends it on its way, if there is one
pub record Spelled : Type 0 where
  pub text : List ℕ
  pub rows : ℕ
  pub fault : Option RowsFault

-- what stands behind the rows of an entry in each format
abbrev pub ending : List ℕ
ending = codes "\\.\n\n\n"

abbrev pub row_line : List Field → List ℕ
row_line row = spell_row row ++ newline ∷ []

-- a row in front of what comes behind it; a row that fails ends it
abbrev pub in_front : ℕ → Result (List Field) DataFault → Spelled → Spelled
in_front number (Ok row) behind = record { text = row_line row ++ behind.text; rows = behind.rows + 1; fault = behind.fault }
in_front number (Err fault) behind = record { text = []; rows = 0; fault = Some (record { row = number; fault = fault }) }

-- of lines that read so, of which the first is the row of this number
unfoldable pub spelled_from : ℕ → ℕ → List (Result (List Field) CopyFault) → Spelled
spelled_from columns number [] = record { text = ending; rows = 0; fault = None }
spelled_from columns number (read ∷ more) = in_front number (checked_row columns read) (spelled_from columns (number + 1) more)

-- of the text of a table with this many columns
unfoldable pub spelled : ℕ → List ℕ → Spelled
spelled columns text = spelled_from columns 1 (read_lines text)
