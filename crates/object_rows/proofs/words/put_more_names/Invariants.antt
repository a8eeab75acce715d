-- What was appended so far is what the names so far give.
use Rattle.std.proofs.Common.{◌≡◌, ◌++◌, take, string_bytes}
use Rattle.std.specs.Prelude.{codes}
use Rattle.std.specs.List.{flat_map}
use Rattle.sql_lex.specs.Written.{written_name}
use Rattle.object_rows.proofs.words.put_more_names.Given as goal

abbrev pub invariant-loop-name : goal.invariant-loop-name
invariant-loop-name l = string_bytes l.out ≡ string_bytes l.initial.out ++ flat_map (λ n. codes ", " ++ written_name n) (take l.name-index l.names)
