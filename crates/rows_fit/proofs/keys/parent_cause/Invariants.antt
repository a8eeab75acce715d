-- Each row has a parent for the foreign keys so far.
use Rattle.std.proofs.Common.{◌≡◌, drop}
use Rattle.rows_fit.specs.KeyCauses.{parent_cause}
use Rattle.rows_fit.proofs.keys.parent_cause.Given as goal

abbrev pub invariant-loop-i : goal.invariant-loop-i
invariant-loop-i l = parent_cause l.foreigns l.columns l.rows ≡ parent_cause (drop l.i l.foreigns) l.columns l.rows
