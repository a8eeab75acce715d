use Rattle.std.proofs.Common.{◌≡◌, ◌≤◌, ◌∷◌, [], ◌++◌, length, take, vec_len}
use Rattle.sql_lex.specs.Written.{doubled, quoted}
use Rattle.sql_lex.proofs.write.put_quoted.Given as goal

abbrev pub invariant-pieces : goal.invariant-pieces
invariant-pieces l =
    record {
      whole : l.out.items ++ (doubled l.quote l.rest ++ l.quote ∷ []) ≡ l.fn.out.items ++ quoted l.quote l.text;
      kept : take (vec_len l.fn.out) l.out.items ≡ l.fn.out.items;
      short : length l.rest ≤ length l.text;
    }

abbrev pub decreases-pieces : goal.decreases-pieces
decreases-pieces l = length l.rest
