use Rattle.std.specs.List.{flat_map}
use Rattle.cat_names.specs.Naming.{role_entries}
use Rattle.named_tables.specs.Kinds.{of_roles}
use Rattle.named_tables.proofs.Entries.{entries_stand}
use Rattle.named_tables.proofs.Roles.{roles_stand}
use Rattle.named_tables.proofs.laws.roles_are_named.Goals as goal

pub returns : goal.returns
returns c = λ texts named oids current cat sound own are. entries_stand named of_roles (flat_map role_entries cat.pg_authid) (roles_stand texts named sound oids own cat.pg_authid are.roles)
