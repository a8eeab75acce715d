use Rattle.std.proofs.Common.{option_map, ap, arith}
use Rattle.dump_toc.specs.Comments.{remark, index_remark, remark_draft}
use Rattle.dump_toc.proofs.Remarks.{remarks_more, remarks_all}
use Rattle.dump_toc.proofs.comments.add_on_index.Goals as goal

pub loop-row-preserved : goal.loop-row-preserved
loop-row-preserved c =
    remarks_more (remark_draft c.args.rows.now c.args.object.now c.args.place) (index_remark c.args.rows.now c.args.index) c.args.drafts.now.items _ _ (option_map (remark c.row-item.result.now.description) c.in_ok-what.what) c.args.found.now c.loop-row.row-index c.row-item.result c.loop-row.invariant c.in_ok-add_remark.ensures (ap (option_map (remark c.row-item.result.now.description)) c.in_ok-what.ensures) c.loop-row-test.true c.row-item.is

pub returns : goal.returns
returns c = remarks_all (remark_draft c.args.rows.now c.args.object.now c.args.place) (index_remark c.args.rows.now c.args.index) c.args.drafts.now.items _ c.args.found.now c.loop-row.row-index c.loop-row.invariant (omega (arith, c.loop-row-test.false))
