use Rattle.std.proofs.Common.{map, refl, ap, ◌∙◌}
use Rattle.dep_sort.proofs.Sorting.{seen, numbered_more}
use Rattle.dep_sort.proofs.places.numbered.Goals as goal

pub loop-place-preserved : goal.loop-place-preserved
loop-place-preserved c =
    ap (map seen) c.in_ok-push.ensures.items ∙ numbered_more c.args.objects.now c.loop-place.entries.items c.loop-place.place _ c.loop-place-test.true refl c.index-objects-place.is c.loop-place.invariant
