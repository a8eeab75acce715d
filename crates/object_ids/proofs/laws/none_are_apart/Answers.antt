use Rattle.object_ids.proofs.Apart.{none_apart}
use Rattle.object_ids.proofs.laws.none_are_apart.Goals as goal

pub returns : goal.returns
returns c = none_apart
