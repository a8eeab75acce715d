-- No two rows have one of the keys so far in common.
use Rattle.std.proofs.Common.{◌≡◌, drop}
use Rattle.rows_fit.specs.KeyCauses.{unique_cause}
use Rattle.rows_fit.proofs.keys.unique_cause.Given as goal

abbrev pub invariant-loop-i : goal.invariant-loop-i
invariant-loop-i l = unique_cause l.uniques l.columns l.rows ≡ unique_cause (drop l.i l.uniques) l.columns l.rows
