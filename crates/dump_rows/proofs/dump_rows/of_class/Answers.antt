use Rattle.std.proofs.Common.{arith}
use Rattle.cat_rows.specs.declared.notes.DescriptionRow.{DescriptionRow}
use Rattle.cat_names.specs.Lookups.{same_oid}
use Rattle.dump_rows.proofs.Seen.{kept_more, kept_all}
use Rattle.dump_rows.proofs.dump_rows.of_class.Goals as goal

pub loop-row-preserved : goal.loop-row-preserved
loop-row-preserved c = kept_more (λ (d : DescriptionRow). same_oid c.args.class d.classoid) _ _ c.args.rows.now c.loop-row.row-index c.row-item.result c.loop-row.invariant c.in_ok-keep_of_class.ensures c.loop-row-test.true c.row-item.is

pub returns : goal.returns
returns c = kept_all (λ (d : DescriptionRow). same_oid c.args.class d.classoid) _ c.args.rows.now c.loop-row.row-index c.loop-row.invariant (omega (arith, c.loop-row-test.false))
