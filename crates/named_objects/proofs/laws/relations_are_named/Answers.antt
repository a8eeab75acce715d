use Rattle.std.specs.List.{flat_map}
use Rattle.cat_naming.specs.Relations.{class_entries}
use Rattle.named_objects.specs.Kinds.{of_relations}
use Rattle.named_objects.proofs.Held.{entries_stand_at}
use Rattle.named_objects.proofs.Led.{led_to, have_own}
use Rattle.named_objects.proofs.RelationNames.{relations_stand}
use Rattle.named_objects.proofs.laws.relations_are_named.Goals as goal

pub returns : goal.returns
returns c = λ texts named oids current depends cat rows sound own numbers are. entries_stand_at named of_relations (flat_map (class_entries cat rows) cat.pg_class) (relations_stand texts named sound oids own numbers cat rows (led_to named oids current depends cat rows are) (have_own named oids current depends cat rows are) are.labels are.rows_held)
