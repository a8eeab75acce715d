-- The causes that the faults of rows are, and one cause before others.
use Rattle.std.specs.Prelude.{ℕ, List, Option, Some, None, Result, Ok, Err}
use Rattle.cat_model.specs.declared.cause.Cause.{Cause}
use Rattle.cat_model.specs.declared.cause.Cause.TheVariants as cause
use Rattle.cat_model.specs.Values.{Row}
use Rattle.rows_fit.specs.declared.fault.RowFault.{RowFault}
use Rattle.rows_fit.specs.declared.fault.RowFault.TheVariants.{BadValue, NullValue, Fields, BadRow}

-- the cause, where the row with this number has the fault
abbrev pub cause_of : ℕ → RowFault → Cause
cause_of row (BadValue column) = cause.BadValue column row
cause_of row (NullValue column) = cause.NullValue column row
cause_of row (Fields found) = cause.Fields row found
cause_of row (BadRow fault) = cause.BadRow row fault

-- the row with this number, or the cause
abbrev pub row_or_cause : ℕ → Result Row RowFault → Result Row Cause
row_or_cause number (Ok row) = Ok row
row_or_cause number (Err fault) = Err (cause_of number fault)

-- the rows, or the cause
abbrev pub rows_or_cause : Result (List Row) (ℕ × RowFault) → Result (List Row) Cause
rows_or_cause (Ok rows) = Ok rows
rows_or_cause (Err (number, fault)) = Err (cause_of number fault)

abbrev pub first_cause : Option Cause → Option Cause → Option Cause
first_cause (Some cause) later = Some cause
first_cause None later = later
