use Rattle.std.proofs.Common.{arith}
use Rattle.cat_naming.specs.Constraints.{index_entries}
use Rattle.cat_naming.proofs.Rows.{row_none, row_more, rows_all}
use Rattle.cat_naming.proofs.constraints.add_indexes.Goals as goal

pub loop-row-init : goal.loop-row-init
loop-row-init c = row_none index_entries c.args.entries.now.items c.args.rows.now

pub loop-row-preserved : goal.loop-row-preserved
loop-row-preserved c =
    row_more index_entries c.args.entries.now.items _ _ c.args.rows.now c.loop-row.row-index c.row-item.result c.loop-row.invariant c.in_ok-push_index.ensures c.loop-row-test.true c.row-item.is

pub returns : goal.returns
returns c = rows_all index_entries c.args.entries.now.items _ c.args.rows.now c.loop-row.row-index c.loop-row.invariant (omega (arith, c.loop-row-test.false))
