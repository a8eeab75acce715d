use Rattle.ddl_read.proofs.Common.{◌-◌, ◌≤◌, length, statements_of}
use Rattle.ddl_read.proofs.Statements.{IsLeft}
use Rattle.ddl_read.proofs.reading.read_stmts.Given as goal

-- the statements so far and those behind the place are those of the text
abbrev pub invariant-statements : goal.invariant-statements
invariant-statements l = record {
  within : l.at ≤ length l.text;
  left : IsLeft (statements_of l.text) l.text l.statements.items l.at;
}

abbrev pub decreases-statements : goal.decreases-statements
decreases-statements l = length l.text - l.at
