use Rattle.named_objects.proofs.Ends.{labels_found}
use Rattle.named_objects.proofs.Led.{led_to}
use Rattle.named_objects.proofs.laws.labels_are_named.Goals as goal

pub returns : goal.returns
returns c = λ texts named oids current depends cat rows sound own are. labels_found texts named sound oids own cat (led_to named oids current depends cat rows are) are.labels
