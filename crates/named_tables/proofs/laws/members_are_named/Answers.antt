use Rattle.std.specs.List.{flat_map}
use Rattle.cat_names.specs.Naming.{member_entries}
use Rattle.named_tables.specs.Kinds.{of_members}
use Rattle.named_tables.proofs.Entries.{entries_stand}
use Rattle.named_tables.proofs.Members.{members_stand}
use Rattle.named_tables.proofs.laws.members_are_named.Goals as goal

pub returns : goal.returns
returns c = λ texts named oids current cat sound own are. entries_stand named of_members (flat_map (member_entries cat.pg_authid) cat.pg_auth_members) (members_stand texts named sound oids own cat are.roles are.members)
