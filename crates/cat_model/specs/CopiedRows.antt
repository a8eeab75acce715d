-- The rows that COPY reads for a table, or the first cause: row by row, and in each row the table's columns in order.
use Rattle.std.specs.Prelude.{ℕ, ◌+◌, Bool, true, false, ◌&&◌, ◌||◌, not, ◌==◌, List, [], ◌∷◌, map, length, Option, Some, None, Result, Ok, Err, if◌then◌else◌}
use Rattle.std.specs.Option.{option_map}
use Rattle.std.specs.List.{list_any, list_all}
use Rattle.copy_text.specs.declared.fault.CopyFault.{CopyFault}
use Rattle.copy_text.specs.Lines.{data_lines}
use Rattle.copy_text.specs.Reading.{row_of}
use Rattle.cat_model.specs.declared.cause.Cause.{Cause}
use Rattle.cat_model.specs.declared.cause.Cause.TheVariants.{BadValue, NullValue, Fields, BadRow}
use Rattle.cat_model.specs.Values.{Bytes, Column, Row}
use Rattle.cat_model.specs.Lexemes.{same_text}
use Rattle.cat_model.specs.FieldTypes.{takes}
use Rattle.cat_model.specs.Tables.{columns_there}

-- the names are all the table's columns, each once; no names stand for all in order
abbrev pub all_columns : List Column → List Bytes → Bool
all_columns columns [] = true
all_columns columns (name ∷ names) = columns_there columns (name ∷ names) && length columns == length (name ∷ names)

-- the field of a column, where the fields are those of the names
abbrev pub field_named : List Bytes → Row → Bytes → Option Bytes
field_named [] fields column = None
field_named (name ∷ names) [] column = None
field_named (name ∷ names) (f ∷ fs) column = if same_text column name then f else field_named names fs column

-- the fields in the order of the columns
abbrev pub in_order : List Column → List Bytes → Row → Row
in_order columns [] fields = fields
in_order columns (name ∷ names) fields = map (λ c. field_named (name ∷ names) fields c.name) columns

-- whether a column takes no null: its own word, that of a domain, or a primary key's
abbrev pub no_null : List Bytes → Column → Bool
no_null primary c = c.not_null || c.resolved.not_null || list_any (same_text c.name) primary

abbrev pub field_cause : List Bytes → ℕ → ℕ → Column → Option Bytes → Option Cause → Option Cause
field_cause primary row column c (Some text) later = if takes c.resolved text then later else Some (BadValue column row)
field_cause primary row column c None later = if no_null primary c then Some (NullValue column row) else later

-- the first cause among the fields of a row, whose columns count from `column`
abbrev pub fields_cause : List Bytes → ℕ → ℕ → List Column → Row → Option Cause
fields_cause primary row column [] fields = None
fields_cause primary row column (c ∷ cs) [] = None
fields_cause primary row column (c ∷ cs) (f ∷ fs) = field_cause primary row column c f (fields_cause primary row (column + 1) cs fs)

abbrev pub row_or : Row → Option Cause → Result Row Cause
row_or fields None = Ok fields
row_or fields (Some cause) = Err cause

-- the row of a line's fields
abbrev pub row_read : List Column → List Bytes → List Bytes → ℕ → Result Row CopyFault → Result Row Cause
row_read columns names primary row (Err fault) = Err (BadRow row fault)
row_read columns names primary row (Ok fields) =
    if length fields == length columns
    then (let ordered = in_order columns names fields in row_or ordered (fields_cause primary row 1 columns ordered))
    else Err (Fields row (length fields))

abbrev pub onto_rows : Result Row Cause → Result (List Row) Cause → Result (List Row) Cause
onto_rows (Err cause) later = Err cause
onto_rows (Ok row) (Err cause) = Err cause
onto_rows (Ok row) (Ok rows) = Ok (row ∷ rows)

-- the rows of lines, which count from `row`
abbrev pub rows_read : List Column → List Bytes → List Bytes → ℕ → List Bytes → Result (List Row) Cause
rows_read columns names primary row [] = Ok []
rows_read columns names primary row (line ∷ lines) =
    onto_rows (row_read columns names primary row (row_of line)) (rows_read columns names primary (row + 1) lines)

-- the rows of a text, where the table's primary key is on these columns
abbrev pub copied_rows : List Column → List Bytes → List Bytes → Bytes → Result (List Row) Cause
copied_rows columns names primary text = rows_read columns names primary 1 (data_lines text)
