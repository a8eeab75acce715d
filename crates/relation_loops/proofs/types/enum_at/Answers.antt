use Rattle.cluster_loops.specs.Ids.{of_keys}
use Rattle.relation_loops.proofs.types.enum_at.Goals as goal

pub returns : goal.returns
returns c = λ labels. c.in_ok-enum_row.ensures (of_keys c.args.ids.now) c.args.owner.now c.args.grants.now labels c.in_ok-head.ensures
