use Rattle.object_ids.proofs.Steps.{nothing_apart}
use Rattle.object_ids.proofs.ids.Ids.new.Goals as goal

pub invariant_of-result : goal.invariant_of-result
invariant_of-result c = nothing_apart c.new.result.entries c.new-2.result.keys c.new-3.result c.new.ensures.empty c.new-2.ensures.empty c.new-3.ensures
