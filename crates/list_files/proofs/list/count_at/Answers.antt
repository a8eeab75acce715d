use Rattle.std.proofs.Common.{arith}
use Rattle.list_files.proofs.Standing.{count_next}
use Rattle.list_files.proofs.list.count_at.Goals as goal

pub loop-place-preserved : goal.loop-place-preserved
loop-place-preserved c = (
  count_next c.args.entries.now c.args.places.now c.loop-place.place-index c.loop-place.count c.count_one-count.result (omega arith) c.loop-place.invariant.0 c.count_one-count.ensures.value,
  omega (arith, c.loop-place.invariant.1, c.count_one-count.ensures.small),
)
