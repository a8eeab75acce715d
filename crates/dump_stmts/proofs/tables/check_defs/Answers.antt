use Rattle.std.proofs.Common.{arith}
use Rattle.dump_rows.proofs.Seen.{some_more, some_all}
use Rattle.dump_stmts.specs.Types.{check_def}
use Rattle.dump_stmts.proofs.tables.check_defs.Goals as goal

pub loop-row-preserved : goal.loop-row-preserved
loop-row-preserved c = some_more check_def _ _ c.in_ok-check.check c.args.rows.now c.loop-row.row-index c.row-item.result c.loop-row.invariant c.in_ok-push_check.ensures c.in_ok-check.ensures c.loop-row-test.true c.row-item.is

pub returns : goal.returns
returns c = some_all check_def _ c.args.rows.now c.loop-row.row-index c.loop-row.invariant (omega (arith, c.loop-row-test.false))
