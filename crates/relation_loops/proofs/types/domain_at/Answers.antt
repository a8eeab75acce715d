use Rattle.std.proofs.Common.{sym}
use Rattle.cluster_loops.specs.Ids.{of_keys}
use Rattle.relation_loops.proofs.types.domain_at.Goals as goal

pub returns : goal.returns
returns c = λ fits. c.in_ok-domain_row.ensures (of_keys c.args.ids.now) c.args.owner.now c.args.grants.now c.in_ok-head.ensures (sym c.in_ok-base.ensures) fits
