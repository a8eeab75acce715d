use Rattle.named_objects.proofs.LabelRows.{labels_meet}
use Rattle.named_objects.proofs.Led.{led_to}
use Rattle.named_objects.proofs.laws.labels_meet_their_table.Goals as goal

pub returns : goal.returns
returns c = λ texts named oids current depends cat rows sound own own_labels are. labels_meet texts named sound oids own own_labels cat (led_to named oids current depends cat rows are) are.labels
