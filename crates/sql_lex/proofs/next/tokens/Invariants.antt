use Rattle.std.proofs.Common.{◌≤◌, ◌-◌, length}
use Rattle.sql_lex.proofs.Passing.{AreSoFar}
use Rattle.sql_lex.proofs.next.tokens.Given as goal

abbrev pub invariant-loop-tokens : goal.invariant-loop-tokens
invariant-loop-tokens l =
    record {
      so_far : AreSoFar l.text l.tokens.items l.at;
      high : l.at ≤ length l.text;
    }

abbrev pub decreases-loop-tokens : goal.decreases-loop-tokens
decreases-loop-tokens l = length l.text - l.at
