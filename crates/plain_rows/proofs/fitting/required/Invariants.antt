-- The columns so far.
use Rattle.std.proofs.Common.{◌≡◌, map, take}
use Rattle.cat_model.specs.CopiedRows.{no_null}
use Rattle.plain_rows.proofs.fitting.required.Given as goal

abbrev pub invariant-loop-column : goal.invariant-loop-column
invariant-loop-column l = l.required.items ≡ map (no_null l.primary) (take l.column-index l.columns)
