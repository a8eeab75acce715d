-- The keys that each table of the cluster gives.
use Rattle.std.specs.Prelude.{Bool, true, false, ◌||◌}
use Rattle.cat_model.specs.declared.key.Key.{Key}
use Rattle.cat_model.specs.declared.key.Key.TheVariants as key
use Rattle.cat_model.specs.declared.object.Object.{Object}
use Rattle.cat_model.specs.declared.object.Object.TheVariants as object

abbrev pub of_roles : Key → Bool
of_roles (key.Role name) = true
of_roles _ = false

abbrev pub of_members : Key → Bool
of_members (key.Member role member grantor) = true
of_members _ = false

abbrev pub is_database : Object → Bool
is_database (object.Database name) = true
is_database _ = false

-- a database and its owner
abbrev pub of_databases : Key → Bool
of_databases (key.Database name) = true
of_databases (key.Owner o) = is_database o
of_databases _ = false

abbrev pub is_schema : Object → Bool
is_schema (object.Schema name) = true
is_schema _ = false

-- a schema, its owner and its grants
abbrev pub of_schemas : Key → Bool
of_schemas (key.Schema name) = true
of_schemas (key.Owner o) = is_schema o
of_schemas (key.Acl o) = is_schema o
of_schemas _ = false

-- what the four tables give
abbrev pub of_cluster : Key → Bool
of_cluster k = of_roles k || of_members k || of_databases k || of_schemas k
