use Rattle.cluster_loops.specs.Ids.{of_keys}
use Rattle.relation_loops.proofs.relations.table_at.Goals as goal

pub returns : goal.returns
returns c = λ named columns owner grants. c.in_ok-table_class.ensures named (of_keys c.args.ids.now) c.args.owner.now c.args.grants.now columns owner grants c.in_ok-head.ensures
