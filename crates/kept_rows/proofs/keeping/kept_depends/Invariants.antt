-- The rows so far are those of the opening so far.
use Rattle.std.proofs.Common.{◌≡◌, take}
use Rattle.kept_rows.proofs.keeping.kept_depends.Given as goal

abbrev pub invariant-loop-row : goal.invariant-loop-row
invariant-loop-row l = l.rows ≡ take l.row-index l.opening
