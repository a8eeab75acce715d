use Rattle.std.specs.List.{flat_map}
use Rattle.cat_names.specs.Naming.{schema_entries}
use Rattle.named_tables.specs.Kinds.{of_schemas}
use Rattle.named_tables.proofs.Entries.{entries_stand}
use Rattle.named_tables.proofs.Schemas.{schemas_stand}
use Rattle.named_tables.proofs.laws.schemas_are_named.Goals as goal

pub returns : goal.returns
returns c = λ texts named oids current cat sound own are. entries_stand named of_schemas (flat_map (schema_entries cat.pg_authid) cat.pg_namespace) (schemas_stand texts named sound oids own cat are.roles are.schemas)
