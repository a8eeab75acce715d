use Rattle.named_objects.proofs.ColumnRows.{columns_meet}
use Rattle.named_objects.proofs.Led.{led_to}
use Rattle.named_objects.proofs.laws.columns_meet_their_table.Goals as goal

pub returns : goal.returns
returns c = λ texts named oids current depends cat rows sound own numbers kept are. columns_meet texts named sound oids own numbers cat (led_to named oids current depends cat rows are) are.columns kept.view_columns
