use Rattle.named_objects.proofs.Led.{led_to}
use Rattle.named_objects.proofs.TypeRows.{types_meet}
use Rattle.named_objects.proofs.laws.types_meet_their_table.Goals as goal

pub returns : goal.returns
returns c = λ texts named oids current depends cat rows sound own are. types_meet texts named sound oids.of own cat (led_to named oids current depends cat rows are)
