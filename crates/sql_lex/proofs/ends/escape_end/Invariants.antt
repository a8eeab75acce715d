use Rattle.std.proofs.Common.{true, false, length, drop, ◌-◌}
use Rattle.sql_lex.specs.Ends.{escape_end}
use Rattle.sql_lex.proofs.Loops.{IsAlong}
use Rattle.sql_lex.proofs.ends.escape_end.Given as goal

abbrev pub invariant-marks : goal.invariant-marks
invariant-marks l = IsAlong (escape_end false true l.at (drop l.at l.text)) (escape_end false true l.fn.at (drop l.fn.at l.text)) l.fn.at l.at (length l.text)

abbrev pub decreases-marks : goal.decreases-marks
decreases-marks l = length l.text - l.at
