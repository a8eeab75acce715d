use Rattle.std.proofs.Common.{◌≡◌, ◌≤◌, ◌-◌, ◌++◌, false, length, drop}
use Rattle.sql_lex.specs.Meaning.{undoubled}
use Rattle.sql_lex.proofs.meaning.undoubled.Given as goal

abbrev pub invariant-pieces : goal.invariant-pieces
invariant-pieces l =
    record {
      whole : l.out.items ++ undoubled l.quote false (drop l.at l.text) ≡ undoubled l.quote false l.text;
      high : l.at ≤ length l.text;
    }

abbrev pub decreases-pieces : goal.decreases-pieces
decreases-pieces l = length l.text - l.at
