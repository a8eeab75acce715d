use Rattle.named_objects.proofs.Led.{led_to, have_own}
use Rattle.named_objects.proofs.RelationRows.{relations_meet}
use Rattle.named_objects.proofs.laws.relations_meet_their_table.Goals as goal

pub returns : goal.returns
returns c = λ texts named oids current depends cat rows sound own numbers are. relations_meet texts named sound oids own numbers cat (led_to named oids current depends cat rows are) (have_own named oids current depends cat rows are)
