use Rattle.std.proofs.Common.{◌≡◌, ◌-◌, ◌+◌, drop, subst, arith}
use Rattle.field_marks.specs.Marks.{AreMarks}
use Rattle.field_marks.proofs.Following.{marked_first, marked_behind}
use Rattle.field_marks.proofs.ahead.split_far.Goals as goal

pub cut-requires-clause-first : goal.cut-requires-clause-first
cut-requires-clause-first c = marked_first c.args.text.now c.in-Some.start c.in-Some.bits c.lowest-at.result c.in-Some.ensures c.lowest-at.ensures.set c.lowest-at.ensures.below

pub cut-requires-clause-marks : goal.cut-requires-clause-marks
cut-requires-clause-marks c =
    let text = c.args.text.now in
    let at = c.lowest-at.result in
    let left : 64 - at - 1 ≡ 63 - at = omega arith in
    subst (λ n. AreMarks (drop (c.in-Some.start + at + 1) text) c.above.result n) left (marked_behind text c.in-Some.start c.in-Some.bits at c.in-Some.ensures c.lowest-at.ensures.set c.above.result c.above.ensures)
