use Rattle.named_objects.proofs.IndexRows.{indexes_meet}
use Rattle.named_objects.proofs.Led.{led_to}
use Rattle.named_objects.proofs.laws.indexes_meet_their_table.Goals as goal

pub returns : goal.returns
returns c = λ texts named oids current depends cat rows sound own numbers are. indexes_meet texts named sound oids own numbers cat (led_to named oids current depends cat rows are) are.columns are.constraints are.indexes
