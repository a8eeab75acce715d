-- The columns so far.
use Rattle.std.proofs.Common.{◌≡◌, take}
use Rattle.field_values.proofs.table.column_values.Given as goal

abbrev pub invariant-loop-column : goal.invariant-loop-column
invariant-loop-column l = l.values.items ≡ take l.column-index l.columns
