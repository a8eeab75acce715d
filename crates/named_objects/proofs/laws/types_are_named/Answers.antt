use Rattle.std.specs.List.{flat_map}
use Rattle.cat_naming.specs.Types.{type_entries}
use Rattle.named_tables.proofs.Entries.{entries_stand}
use Rattle.named_objects.specs.Kinds.{of_types}
use Rattle.named_objects.proofs.Led.{led_to}
use Rattle.named_objects.proofs.TypeNames.{types_stand}
use Rattle.named_objects.proofs.laws.types_are_named.Goals as goal

pub returns : goal.returns
returns c = λ texts named oids current depends cat rows sound own are. entries_stand named of_types (flat_map (type_entries cat) cat.pg_type) (types_stand texts named sound oids own cat (led_to named oids current depends cat rows are) are.labels are.constraints)
