use Rattle.std.specs.List.{flat_map}
use Rattle.cat_names.specs.Naming.{database_entries}
use Rattle.named_tables.specs.Kinds.{of_databases}
use Rattle.named_tables.proofs.Entries.{entries_stand}
use Rattle.named_tables.proofs.Databases.{databases_stand}
use Rattle.named_tables.proofs.laws.databases_are_named.Goals as goal

pub returns : goal.returns
returns c = λ texts named oids current cat sound own are. entries_stand named of_databases (flat_map (database_entries cat.pg_authid) cat.pg_database) (databases_stand texts named sound oids own current cat are.roles are.databases)
