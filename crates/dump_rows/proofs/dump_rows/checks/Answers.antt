use Rattle.std.proofs.Common.{arith}
use Rattle.dump_rows.specs.Rows.{is_check}
use Rattle.dump_rows.proofs.Seen.{kept_more, kept_all}
use Rattle.dump_rows.proofs.dump_rows.checks.Goals as goal

pub loop-row-preserved : goal.loop-row-preserved
loop-row-preserved c = kept_more is_check _ _ c.args.rows.now c.loop-row.row-index c.row-item.result c.loop-row.invariant c.in_ok-keep_check.ensures c.loop-row-test.true c.row-item.is

pub returns : goal.returns
returns c = kept_all is_check _ c.args.rows.now c.loop-row.row-index c.loop-row.invariant (omega (arith, c.loop-row-test.false))
