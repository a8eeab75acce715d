-- Catalogues whose only objects are schemas, which all belong to one role with default grants.
use Rattle.std.specs.Prelude.{◌≡◌, List, [], ◌∷◌, Some, None, if◌then◌else◌}
use Rattle.std.specs.List.{AllByRecursion}
use Rattle.cat_model.specs.declared.grant.Owned.TheVariants as owned
use Rattle.cat_model.specs.declared.stmt.Stmt.{Stmt}
use Rattle.cat_model.specs.declared.stmt.Stmt.TheVariants as stmt
use Rattle.cat_model.specs.Values.{Bytes}
use Rattle.cat_names.specs.Lookups.{role_name}
use Rattle.cat_rows.specs.declared.catalogue.Catalogue.{Catalogue}
use Rattle.cat_rows.specs.declared.roles.AuthidRow.{AuthidRow}
use Rattle.cat_rows.specs.declared.roles.DatabaseRow.{DatabaseRow}
use Rattle.cat_rows.specs.declared.schemas.NamespaceRow.{NamespaceRow}
use Rattle.cat_rows.specs.Catalogues.{no_rows}
use Rattle.dump_stmts.specs.Paths.{is_public}

-- these roles, databases and schemas, and nothing else
abbrev pub alone : List AuthidRow → List DatabaseRow → List NamespaceRow → Catalogue
alone roles databases schemas = record no_rows { pg_authid = roles; pg_database = databases; pg_namespace = schemas }

-- a schema of this role, with the grants of a new one
abbrev pub IsOwned : Bytes → List AuthidRow → NamespaceRow → Type 0
IsOwned role roles row = (role_name roles row.nspowner ≡ Some role) × (row.nspacl ≡ None)

abbrev pub AreOwned : Bytes → List AuthidRow → List NamespaceRow → Type 0
AreOwned role roles schemas = AllByRecursion (IsOwned role roles) schemas

-- a schema is made, unless it is the one that each database has from the start, and given to its owner
abbrev pub schema_said : Bytes → Bytes → List Stmt
schema_said role name =
    if is_public name then stmt.OwnerTo (owned.Schema name) role ∷ []
    else stmt.CreateSchema name ∷ stmt.OwnerTo (owned.Schema name) role ∷ []
