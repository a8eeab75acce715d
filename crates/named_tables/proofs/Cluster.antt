-- The four tables together stand for the cluster.
use Rattle.std.proofs.Common.{◌++◌, ◌||◌}
use Rattle.std.specs.List.{flat_map}
use Rattle.cat_rows.specs.declared.catalogue.Catalogue.{Catalogue}
use Rattle.cat_model.specs.Values.{Bytes, Named}
use Rattle.cat_names.specs.Naming.{role_entries, member_entries, database_entries, schema_entries, cluster_entries}
use Rattle.cat_sound.specs.Texts.{Texts}
use Rattle.cat_sound.specs.Sound.{IsSound}
use Rattle.named_tables.specs.Cluster.{StandsFor}
use Rattle.named_tables.specs.Kinds.{of_roles, of_members, of_databases, of_schemas, of_cluster}
use Rattle.named_tables.specs.Oids.{Oids, AreOids}
use Rattle.named_tables.proofs.Entries.{AreEntries, both_stand}
use Rattle.named_tables.proofs.Roles.{roles_stand}
use Rattle.named_tables.proofs.Members.{members_stand}
use Rattle.named_tables.proofs.Databases.{databases_stand}
use Rattle.named_tables.proofs.Schemas.{schemas_stand}

pub cluster_stands : (texts : Texts) (named : Named) (oids : Oids) (current : Bytes) (cat : Catalogue) → IsSound texts named → AreOids named oids → StandsFor named oids current cat → AreEntries named of_cluster (cluster_entries cat)
cluster_stands texts named oids current cat sound own are =
    both_stand named (λ k. of_roles k || of_members k || of_databases k) of_schemas
    (flat_map role_entries cat.pg_authid ++ flat_map (member_entries cat.pg_authid) cat.pg_auth_members ++ flat_map (database_entries cat.pg_authid) cat.pg_database)
    (flat_map (schema_entries cat.pg_authid) cat.pg_namespace)
    (
    both_stand named (λ k. of_roles k || of_members k) of_databases
    (flat_map role_entries cat.pg_authid ++ flat_map (member_entries cat.pg_authid) cat.pg_auth_members)
    (flat_map (database_entries cat.pg_authid) cat.pg_database)
    (
    both_stand named of_roles of_members
    (flat_map role_entries cat.pg_authid)
    (flat_map (member_entries cat.pg_authid) cat.pg_auth_members)
    (roles_stand texts named sound oids own cat.pg_authid are.roles)
    (members_stand texts named sound oids own cat are.roles are.members)
    )
    (databases_stand texts named sound oids own current cat are.roles are.databases)
    )
    (schemas_stand texts named sound oids own cat are.roles are.schemas)
