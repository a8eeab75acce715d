use Rattle.std.specs.List.{flat_map}
use Rattle.cat_naming.specs.Constraints.{constraint_entries}
use Rattle.named_tables.proofs.Entries.{entries_stand}
use Rattle.named_objects.specs.Kinds.{of_constraints}
use Rattle.named_objects.proofs.Constraints.{constraints_stand}
use Rattle.named_objects.proofs.Led.{led_to}
use Rattle.named_objects.proofs.laws.constraints_are_named.Goals as goal

pub returns : goal.returns
returns c = λ texts named oids current depends cat rows sound own are. entries_stand named of_constraints (flat_map (constraint_entries cat) cat.pg_constraint) (constraints_stand texts named sound oids own cat (led_to named oids current depends cat rows are) are.constraints)
