use Rattle.stmt_marks.proofs.Parents.{next_parents}
use Rattle.stmt_marks.proofs.parts.push_parents.Goals as goal

pub loop-pair-preserved : goal.loop-pair-preserved
loop-pair-preserved c =
    next_parents c.loop-pair.marks.items c.push_parent.new.marks.items c.args.marks.now.items c.args.table.now c.args.pairs.now c.loop-pair.pair-index c.pair-item.result c.loop-pair.invariant c.in_ok-push_parent.ensures c.loop-pair-test.true c.pair-item.is
