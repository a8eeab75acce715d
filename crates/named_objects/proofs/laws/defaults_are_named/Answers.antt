use Rattle.std.specs.List.{flat_map}
use Rattle.cat_naming.specs.Relations.{default_entries}
use Rattle.named_tables.proofs.Entries.{entries_stand}
use Rattle.named_objects.specs.Kinds.{of_defaults}
use Rattle.named_objects.proofs.Defaults.{defaults_stand}
use Rattle.named_objects.proofs.Led.{led_to}
use Rattle.named_objects.proofs.laws.defaults_are_named.Goals as goal

pub returns : goal.returns
returns c = λ texts named oids current depends cat rows sound own numbers are. entries_stand named of_defaults (flat_map (default_entries cat) cat.pg_attrdef) (defaults_stand texts named sound oids own numbers cat (led_to named oids current depends cat rows are) are.columns are.defaults)
