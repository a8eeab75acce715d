-- None of the rows so far has a null in a marked column.
use Rattle.std.proofs.Common.{◌≡◌, ◌+◌, drop}
use Rattle.row_keys.specs.Nulls.{first_null}
use Rattle.row_keys.proofs.nulls.first_null.Given as goal

abbrev pub invariant-loop-i : goal.invariant-loop-i
invariant-loop-i l = first_null 1 l.named l.rows ≡ first_null (l.i + 1) l.named (drop l.i l.rows)
