-- The names of the columns so far.
use Rattle.std.proofs.Common.{◌≡◌, map, take}
use Rattle.field_values.proofs.table.column_names.Given as goal

abbrev pub invariant-loop-column : goal.invariant-loop-column
invariant-loop-column l = map (λ name. name.now) l.names.items ≡ map (λ c. c.name) (take l.column-index l.columns)
