use Rattle.entry_ids.proofs.Having.{are_check_oids}
use Rattle.entry_ids.proofs.laws.checks_are_apart.Goals as goal

pub returns : goal.returns
returns c = λ named ids number apart have. are_check_oids named ids apart have number
