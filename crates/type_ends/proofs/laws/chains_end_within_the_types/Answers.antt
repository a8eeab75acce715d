use Rattle.type_ends.proofs.Reached.{settled_within}
use Rattle.type_ends.proofs.laws.chains_end_within_the_types.Goals as goal

pub returns : goal.returns
returns c = settled_within
