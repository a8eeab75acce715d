use Rattle.std.proofs.Common.{arith}
use Rattle.cat_naming.specs.Relations.{class_entries}
use Rattle.cat_naming.specs.Texts.{rows_by_oid}
use Rattle.cat_naming.proofs.Rows.{row_none, row_more, rows_all}
use Rattle.cat_naming.proofs.relations.add_classes.Goals as goal

pub loop-row-init : goal.loop-row-init
loop-row-init c = row_none (class_entries c.args.lookups.now (rows_by_oid c.args.texts.now)) c.args.entries.now.items c.args.rows.now

pub loop-row-preserved : goal.loop-row-preserved
loop-row-preserved c =
    row_more (class_entries c.args.lookups.now (rows_by_oid c.args.texts.now)) c.args.entries.now.items _ _ c.args.rows.now c.loop-row.row-index c.row-item.result c.loop-row.invariant c.in_ok-push_class.ensures c.loop-row-test.true c.row-item.is

pub returns : goal.returns
returns c = rows_all (class_entries c.args.lookups.now (rows_by_oid c.args.texts.now)) c.args.entries.now.items _ c.args.rows.now c.loop-row.row-index c.loop-row.invariant (omega (arith, c.loop-row-test.false))
