use Rattle.object_ids.proofs.Given.{numbered_has}
use Rattle.object_ids.proofs.laws.numbered_have_oids.Goals as goal

pub returns : goal.returns
returns c = λ old s done new how is. numbered_has old s new done how is
