-- The columns so far.
use Rattle.std.proofs.Common.{◌≡◌, map, take}
use Rattle.dump_stmts.specs.Tables.{column_defs}
use Rattle.dump_stmts.proofs.tables.column_defs.Given as goal

abbrev pub invariant-loop-row : goal.invariant-loop-row
invariant-loop-row l = l.columns.items ≡ column_defs l.rows l.standing (map (λ r. r.now) (take l.row-index l.found))
