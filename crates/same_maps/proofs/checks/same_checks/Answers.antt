use Rattle.std.proofs.Common.{◌∙◌}
use Rattle.same_maps.proofs.Entries.{at_first}
use Rattle.same_maps.proofs.checks.same_checks.Goals as goal

pub loop-check-init : goal.loop-check-init
loop-check-init c = at_first c.args.a.now c.args.b.now c.into_iter-check-iterator.result c.iter-others.result (c.into_iter-check-iterator.ensures.into_iter_gives ∙ c.iter-check-items.ensures) c.iter-others.ensures
