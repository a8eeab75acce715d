use Rattle.entry_ids.proofs.Having.{are_label_oids}
use Rattle.entry_ids.proofs.laws.labels_are_apart.Goals as goal

pub returns : goal.returns
returns c = λ named ids number apart have. are_label_oids named ids apart have number
