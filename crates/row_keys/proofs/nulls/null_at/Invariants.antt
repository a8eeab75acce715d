-- None of the fields so far is marked and null.
use Rattle.std.proofs.Common.{◌≡◌, ◌+◌, drop}
use Rattle.row_keys.specs.Nulls.{null_at}
use Rattle.row_keys.proofs.nulls.null_at.Given as goal

abbrev pub invariant-loop-i : goal.invariant-loop-i
invariant-loop-i l = null_at 1 l.named l.fields ≡ null_at (l.i + 1) (drop l.i l.named) (drop l.i l.fields)
