use Rattle.std.specs.List.{flat_map}
use Rattle.cat_naming.specs.Relations.{body_entries}
use Rattle.named_tables.proofs.Entries.{entries_stand}
use Rattle.named_objects.specs.Kinds.{of_bodies}
use Rattle.named_objects.proofs.Bodies.{bodies_stand}
use Rattle.named_objects.proofs.Led.{led_to}
use Rattle.named_objects.proofs.laws.bodies_are_named.Goals as goal

pub returns : goal.returns
returns c = λ texts named oids current depends cat rows sound own are. entries_stand named of_bodies (flat_map (body_entries cat) cat.pg_rewrite) (bodies_stand texts named sound oids.of own cat (led_to named oids current depends cat rows are) are.bodies)
