-- The names so far stand behind what was there.
use Rattle.std.proofs.Common.{◌≡◌, ◌++◌, map, take}
use Rattle.dump_stmts.specs.Tables.{more_names}
use Rattle.dump_stmts.proofs.tables.put_more_names.Given as goal

abbrev pub invariant-loop-column : goal.invariant-loop-column
invariant-loop-column l = l.out.items ≡ l.fn.out.items ++ more_names (map (λ r. r.now) (take l.column-index l.columns))
