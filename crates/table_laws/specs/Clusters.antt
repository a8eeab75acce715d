-- Worked examples: what is wrong with the roles, memberships, databases and schemas of an empty cluster after one change.
use Rattle.std.specs.Prelude.{◌≡◌, true, false, List, [], ◌∷◌, Option, Some, None, codes}
use Rattle.acl_text.specs.declared.list.AclItem.{AclItem}
use Rattle.acl_text.specs.declared.rights.Privilege.TheVariants as privilege
use Rattle.cat_rows.specs.declared.table.SysTable.TheVariants.{PgAuthid, PgAuthMembers, PgDatabase, PgNamespace}
use Rattle.cat_rows.specs.declared.catalogue.Catalogue.{Catalogue}
use Rattle.cat_rows.specs.declared.roles.AuthidRow.{AuthidRow}
use Rattle.cat_rows.specs.declared.roles.AuthMembersRow.{AuthMembersRow}
use Rattle.cat_rows.specs.declared.roles.DatabaseRow.{DatabaseRow}
use Rattle.cat_rows.specs.declared.schemas.NamespaceRow.{NamespaceRow}
use Rattle.cat_model.specs.declared.words.What.TheVariants as what
use Rattle.cat_names.specs.declared.fault.CatFault.{CatFault}
use Rattle.cat_names.specs.declared.fault.FaultKind.TheVariants as kind
use Rattle.well_formed.specs.Catalogues.{first_in, cluster}
use Rattle.table_laws.specs.Small.{fault, role, member, database, schema, grant, postgres, bob, main, public, empty_cluster}

-- the first fault of the four tables
abbrev pub found : Catalogue → Option CatFault
found cat = first_in cat cluster

abbrev pub in_schemas : List NamespaceRow → Option CatFault
in_schemas schemas = found (record empty_cluster { pg_namespace = schemas })

-- the schema public with these rights
abbrev pub granting : List AclItem → List NamespaceRow
granting items = record public { nspacl = Some items } ∷ []

abbrev pub in_roles : List AuthidRow → Option CatFault
in_roles roles = found (record empty_cluster { pg_authid = roles })

abbrev pub in_members : List AuthMembersRow → Option CatFault
in_members members = found (record empty_cluster { pg_authid = postgres ∷ bob ∷ []; pg_auth_members = members })

abbrev pub in_databases : List DatabaseRow → Option CatFault
in_databases databases = found (record empty_cluster { pg_database = databases })

pub record Schemas : Type 0 where
  pub empty : found empty_cluster ≡ None
  pub none : in_schemas [] ≡ None
  pub second_oid : in_schemas (public ∷ schema 2200 (codes "a") ∷ []) ≡ fault PgNamespace 2 kind.RepeatedOid
  pub second_name : in_schemas (public ∷ schema 2201 (codes "public") ∷ []) ≡ fault PgNamespace 2 kind.RepeatedName
  pub oid_first : in_schemas (public ∷ record public { nspowner = 11 } ∷ []) ≡ fault PgNamespace 2 kind.RepeatedOid
  pub no_owner : in_schemas (record public { nspowner = 11 } ∷ []) ≡ fault PgNamespace 1 kind.Dangling
  pub own_schema : in_schemas (schema 2200 (codes "pg_catalog") ∷ []) ≡ fault PgNamespace 1 kind.BadText
  pub no_oid : in_schemas (schema 0 (codes "a") ∷ []) ≡ fault PgNamespace 1 kind.BadText
  pub no_role : in_schemas (granting (grant (Some (codes "bob")) privilege.Usage (codes "postgres") ∷ [])) ≡ fault PgNamespace 1 kind.BadText
  pub no_such_right : in_schemas (granting (grant None privilege.Select (codes "postgres") ∷ [])) ≡ fault PgNamespace 1 kind.BadText
  pub two_items : in_schemas (granting (grant None privilege.Usage (codes "postgres") ∷ grant None privilege.Create (codes "postgres") ∷ [])) ≡ fault PgNamespace 1 kind.BadText
  pub owner_and_all : in_schemas (granting (grant (Some (codes "postgres")) privilege.Usage (codes "postgres") ∷ grant None privilege.Usage (codes "postgres") ∷ [])) ≡ None
  pub without_letters : in_schemas (granting (record (grant (Some (codes "nobody")) privilege.Usage (codes "nobody")) { rights = [] } ∷ [])) ≡ None
  pub by_other : found (record empty_cluster { pg_authid = postgres ∷ bob ∷ []; pg_namespace = granting (grant None privilege.Usage (codes "bob") ∷ []) }) ≡ fault PgNamespace 1 (kind.OutOfProfile what.GrantByOther)

pub record Roles : Type 0 where
  pub no_boot : in_roles (bob ∷ []) ≡ fault PgAuthid 2 kind.Dangling
  pub none : in_roles [] ≡ fault PgAuthid 1 kind.Dangling
  pub twice : in_roles (postgres ∷ postgres ∷ []) ≡ fault PgAuthid 2 kind.RepeatedOid
  pub named_public : in_roles (role 10 (codes "public") ∷ []) ≡ fault PgAuthid 1 kind.BadText

pub record Members : Type 0 where
  pub one : in_members (member 1 10 16400 10 ∷ []) ≡ None
  pub twice : in_members (member 1 10 16400 10 ∷ member 2 10 16400 10 ∷ []) ≡ fault PgAuthMembers 2 kind.RepeatedName
  pub by_another : in_members (member 1 10 16400 10 ∷ member 2 10 16400 16400 ∷ []) ≡ None
  pub no_role : in_members (member 1 10 16401 10 ∷ []) ≡ fault PgAuthMembers 1 kind.Dangling

pub record Databases : Type 0 where
  pub another_encoding : in_databases (database 5 (codes "d") 10 (codes "LATIN1") true ∷ []) ≡ fault PgDatabase 1 (kind.OutOfProfile what.Encoding)
  pub none_current : in_databases (database 5 (codes "d") 10 (codes "UTF8") false ∷ []) ≡ fault PgDatabase 2 kind.Dangling
  pub two_current : in_databases (main ∷ database 6 (codes "d") 10 (codes "UTF8") true ∷ []) ≡ fault PgDatabase 2 kind.RepeatedName
