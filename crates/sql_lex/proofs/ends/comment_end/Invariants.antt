use Rattle.std.proofs.Common.{◌<◌, ◌≤◌, ◌+◌, length, drop, ◌-◌}
use Rattle.sql_lex.specs.Ends.{comment_end}
use Rattle.sql_lex.proofs.Loops.{IsAlong}
use Rattle.sql_lex.proofs.ends.comment_end.Given as goal

abbrev pub invariant-marks : goal.invariant-marks
invariant-marks l =
    record {
      along : IsAlong (comment_end l.depth 0 l.at (drop l.at l.text)) (comment_end 1 0 l.fn.at (drop l.fn.at l.text)) l.fn.at l.at (length l.text);
      some : 0 < l.depth;
      bound : l.depth ≤ l.at + 1;
    }

abbrev pub decreases-marks : goal.decreases-marks
decreases-marks l = length l.text - l.at
