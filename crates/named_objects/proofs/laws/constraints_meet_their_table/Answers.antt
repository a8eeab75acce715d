use Rattle.named_objects.proofs.ConstraintRows.{constraints_meet}
use Rattle.named_objects.proofs.Led.{led_to, have_own}
use Rattle.named_objects.proofs.laws.constraints_meet_their_table.Goals as goal

pub returns : goal.returns
returns c = λ texts named oids current depends cat rows sound own numbers checks are. constraints_meet texts named sound oids own numbers checks cat (led_to named oids current depends cat rows are) (have_own named oids current depends cat rows are)
