use Rattle.entry_ids.proofs.Having.{are_oids}
use Rattle.entry_ids.proofs.laws.objects_are_apart.Goals as goal

pub returns : goal.returns
returns c = λ named ids apart have. are_oids named ids apart have
