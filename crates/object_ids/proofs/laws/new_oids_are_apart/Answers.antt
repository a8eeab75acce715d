use Rattle.object_ids.proofs.Given.{numbered_apart}
use Rattle.object_ids.proofs.laws.new_oids_are_apart.Goals as goal

pub returns : goal.returns
returns c = λ old s done new apart how. numbered_apart old s new done apart how
