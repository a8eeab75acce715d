use Rattle.object_ids.proofs.Given.{numbered_keeps}
use Rattle.object_ids.proofs.laws.numbered_keep_oids.Goals as goal

pub returns : goal.returns
returns c = λ old s done new how. numbered_keeps old s new done how
