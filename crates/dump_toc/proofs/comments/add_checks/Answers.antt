use Rattle.std.proofs.Common.{arith}
use Rattle.dump_toc.specs.Comments.{check_remarks, remark_draft}
use Rattle.dump_toc.proofs.Remarks.{lists_more, lists_all}
use Rattle.dump_toc.proofs.comments.add_checks.Goals as goal

pub loop-check-preserved : goal.loop-check-preserved
loop-check-preserved c =
    lists_more (remark_draft c.args.rows.now c.args.object.now c.args.place) (check_remarks c.args.rows.now) c.args.drafts.now.items _ _ c.args.checks.now c.loop-check.check-index c.check-item.result c.loop-check.invariant c.in_ok-add_check.ensures c.loop-check-test.true c.check-item.is

pub returns : goal.returns
returns c = lists_all (remark_draft c.args.rows.now c.args.object.now c.args.place) (check_remarks c.args.rows.now) c.args.drafts.now.items _ c.args.checks.now c.loop-check.check-index c.loop-check.invariant (omega (arith, c.loop-check-test.false))
