use Rattle.object_ids.proofs.Steps.{used_put}
use Rattle.object_ids.proofs.ids.Ids.avoid.Goals as goal

pub invariant_of-self : goal.invariant_of-self
invariant_of-self c = used_put c.self.inside.ids.entries c.self.inside.rows.keys c.self.inside.used c.put.new.self c.args.oid c.self.invariant c.put.result c.put.ensures.ok c.put.ensures.err
