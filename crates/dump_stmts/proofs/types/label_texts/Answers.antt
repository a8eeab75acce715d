use Rattle.std.proofs.Common.{arith}
use Rattle.dump_rows.proofs.Seen.{each_more, each_all}
use Rattle.cat_rows.specs.declared.types.EnumRow.{EnumRow}
use Rattle.dump_stmts.proofs.types.label_texts.Goals as goal

pub loop-row-preserved : goal.loop-row-preserved
loop-row-preserved c = each_more (λ (e : EnumRow). e.enumlabel) _ _ _ c.args.rows.now c.loop-row.row-index c.row-item.result c.loop-row.invariant c.in_ok-push.ensures.items c.in_ok-clone.ensures.cases c.loop-row-test.true c.row-item.is

pub returns : goal.returns
returns c = each_all (λ (e : EnumRow). e.enumlabel) _ c.args.rows.now c.loop-row.row-index c.loop-row.invariant (omega (arith, c.loop-row-test.false))
