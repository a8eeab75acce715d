use Rattle.std.proofs.Common.{◌∙◌}
use Rattle.dep_sort.proofs.Left.{left_more}
use Rattle.dep_sort.proofs.cut.without_bodies.Goals as goal

pub loop-place-preserved : goal.loop-place-preserved
loop-place-preserved c =
    c.in_ok-push.ensures.items
    ∙ left_more c.args.bodiless.now c.args.objects.now c.loop-place.left.items c.loop-place.place c.index-objects-place.result c.in_ok-left_of.field-0 c.loop-place-test.true c.index-objects-place.is c.in_ok-left_of.ensures c.loop-place.invariant
