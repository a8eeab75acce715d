use Rattle.std.proofs.Common.{◌≡◌, ◌≤◌, ◌-◌, length}
use Rattle.sql_lex.specs.Next.{next_token_of}
use Rattle.sql_lex.proofs.next.next_token.Given as goal

abbrev pub invariant-loop-at : goal.invariant-loop-at
invariant-loop-at l =
    record {
      same : next_token_of l.text l.at ≡ next_token_of l.text l.fn.at;
      low : l.fn.at ≤ l.at;
      high : l.at ≤ length l.text;
    }

abbrev pub decreases-loop-at : goal.decreases-loop-at
decreases-loop-at l = length l.text - l.at
