use Rattle.std.proofs.Common.{arith, option_map}
use Rattle.dump_rows.proofs.Seen.{some_more, some_all}
use Rattle.dump_stmts.specs.Views.{null_column}
use Rattle.dump_stmts.proofs.views.null_columns.Goals as goal

pub loop-row-preserved : goal.loop-row-preserved
loop-row-preserved c = some_more null_column _ _ (option_map (λ v. v.items) c.in_ok-column.column) c.args.rows.now c.loop-row.row-index c.row-item.result c.loop-row.invariant c.in_ok-push_column.ensures c.in_ok-column.ensures c.loop-row-test.true c.row-item.is

pub returns : goal.returns
returns c = some_all null_column _ c.args.rows.now c.loop-row.row-index c.loop-row.invariant (omega (arith, c.loop-row-test.false))
