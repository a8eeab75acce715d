-- The checks so far.
use Rattle.std.proofs.Common.{◌≡◌, map, take}
use Rattle.dump_stmts.specs.Types.{check_defs}
use Rattle.dump_stmts.proofs.tables.check_defs.Given as goal

abbrev pub invariant-loop-row : goal.invariant-loop-row
invariant-loop-row l = l.checks.items ≡ check_defs (map (λ r. r.now) (take l.row-index l.rows))
