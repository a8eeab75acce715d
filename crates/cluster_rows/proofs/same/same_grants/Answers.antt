use Rattle.std.proofs.Common.{◌∙◌}
use Rattle.cluster_rows.proofs.Entries.{at_first}
use Rattle.cluster_rows.proofs.same.same_grants.Goals as goal

pub loop-grant-init : goal.loop-grant-init
loop-grant-init c = at_first c.args.a.now c.args.b.now c.into_iter-grant-iterator.result c.iter-others.result (c.into_iter-grant-iterator.ensures.into_iter_gives ∙ c.iter-grant-items.ensures) c.iter-others.ensures
