use Rattle.std.proofs.Common.{true, length, drop, ◌-◌}
use Rattle.sql_lex.specs.Ends.{quote_end}
use Rattle.sql_lex.proofs.Loops.{IsAlong}
use Rattle.sql_lex.proofs.ends.quote_end.Given as goal

abbrev pub invariant-quotes : goal.invariant-quotes
invariant-quotes l = IsAlong (quote_end l.quote true l.at (drop l.at l.text)) (quote_end l.quote true l.fn.at (drop l.fn.at l.text)) l.fn.at l.at (length l.text)

abbrev pub decreases-quotes : goal.decreases-quotes
decreases-quotes l = length l.text - l.at
