use Rattle.std.proofs.Common.{arith}
use Rattle.dump_rows.proofs.Seen.{some_more, some_all}
use Rattle.dump_stmts.specs.Tables.{column_def}
use Rattle.dump_stmts.proofs.tables.column_defs.Goals as goal

pub loop-row-preserved : goal.loop-row-preserved
loop-row-preserved c = some_more (column_def c.args.rows.now c.args.standing.now) _ _ c.in_ok-column.column c.args.found.now c.loop-row.row-index c.row-item.result c.loop-row.invariant c.in_ok-push_column.ensures c.in_ok-column.ensures c.loop-row-test.true c.row-item.is

pub returns : goal.returns
returns c = some_all (column_def c.args.rows.now c.args.standing.now) _ c.args.found.now c.loop-row.row-index c.loop-row.invariant (omega (arith, c.loop-row-test.false))
