-- All rows so far, and behind them those that are left.
use Rattle.std.proofs.Common.{◌≡◌, ◌++◌, drop}
use Rattle.copy_effects.proofs.joined.push_rows.Given as goal

abbrev pub invariant-loop-row : goal.invariant-loop-row
invariant-loop-row l = l.fn.all ++ l.rows ≡ l.all ++ drop l.row-index l.rows
