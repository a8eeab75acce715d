-- The rows that COPY gives for rows whose fields were read before, or the first cause.
use Rattle.std.specs.Prelude.{ℕ, ◌+◌, List, [], ◌∷◌, Result, Ok}
use Rattle.cat_model.specs.declared.cause.Cause.{Cause}
use Rattle.cat_model.specs.declared.value.Column.{Column}
use Rattle.cat_model.specs.Values.{Bytes, Row}
use Rattle.cat_model.specs.CopiedRows.{onto_rows, row_read}

-- the rows of these, which count from `number`
abbrev pub tried_from : List Column → List Bytes → List Bytes → ℕ → List Row → Result (List Row) Cause
tried_from columns names primary number [] = Ok []
tried_from columns names primary number (row ∷ rows) =
    onto_rows (row_read columns names primary number (Ok row)) (tried_from columns names primary (number + 1) rows)

-- the rows, where the table's primary key is on these columns
abbrev pub tried : List Column → List Bytes → List Bytes → List Row → Result (List Row) Cause
tried columns names primary rows = tried_from columns names primary 1 rows
