-- Worked examples: the export of an empty cluster with other schemas, roles and databases, and what each stands for by
-- names.
use Rattle.std.specs.Prelude.{◌≡◌, ℕ, negsuc, Bool, true, false, List, [], ◌∷◌, ◌++◌, map, Option, Some, None, codes}
use Rattle.acl_text.specs.declared.list.AclItem.{AclItem}
use Rattle.acl_text.specs.declared.rights.Privilege.TheVariants as privilege
use Rattle.acl_text.specs.declared.rights.Privilege.{Privilege}
use Rattle.cat_rows.specs.declared.catalogue.Catalogue.{Catalogue}
use Rattle.cat_rows.specs.declared.roles.AuthidRow.{AuthidRow}
use Rattle.cat_rows.specs.declared.roles.AuthMembersRow.{AuthMembersRow}
use Rattle.cat_rows.specs.declared.roles.DatabaseRow.{DatabaseRow}
use Rattle.cat_rows.specs.declared.schemas.NamespaceRow.{NamespaceRow}
use Rattle.cat_rows.specs.Catalogues.{no_rows}
use Rattle.cat_model.specs.Values.{Bytes}
use Rattle.std.specs.FinMap.{from_entries}
use Rattle.cat_model.specs.declared.key.Key.TheVariants as key
use Rattle.cat_model.specs.declared.object.Object.TheVariants as object
use Rattle.cat_model.specs.Grants.{owner_only, schema_rights, type_rights, without_option}
use Rattle.cat_model.specs.declared.value.Value.TheVariants as value
use Rattle.cat_model.specs.declared.holder.Holder.TheVariants.{Public as PUBLIC, Role as ROLE}
use Rattle.cat_names.specs.declared.rights.GrantKind.TheVariants as on
use Rattle.cat_names.specs.Grants.{grants_of}
use Rattle.cat_names.specs.Naming.{cluster_entries, boot}

abbrev pub role : ℕ → Bytes → AuthidRow
role oid name = record { oid = oid; rolname = name; rolsuper = true; rolinherit = true; rolcreaterole = true; rolcreatedb = true; rolcanlogin = true; rolreplication = true; rolbypassrls = true; rolconnlimit = negsuc 0; rolpassword = None; rolvaliduntil = None }

abbrev pub database : ℕ → Bytes → ℕ → Bytes → Bool → DatabaseRow
database oid name owner encoding current = record { oid = oid; datname = name; datdba = owner; encoding = encoding; datcurrent = current }

abbrev pub schema : ℕ → Bytes → ℕ → Option (List AclItem) → NamespaceRow
schema oid name owner acl = record { oid = oid; nspname = name; nspowner = owner; nspacl = acl }

abbrev pub postgres : AuthidRow
postgres = role 10 (codes "postgres")

abbrev pub main : DatabaseRow
main = database 5 (codes "postgres") 10 (codes "UTF8") true

abbrev pub public : NamespaceRow
public = schema 2200 (codes "public") 10 None

-- the export of an empty cluster with other roles, memberships, databases, schemas
abbrev pub catalogue : List AuthidRow → List AuthMembersRow → List DatabaseRow → List NamespaceRow → Catalogue
catalogue roles members databases schemas = record no_rows { pg_authid = roles; pg_auth_members = members; pg_database = databases; pg_namespace = schemas }

abbrev pub with_schemas : List NamespaceRow → Catalogue
with_schemas schemas = catalogue (postgres ∷ []) [] (main ∷ []) schemas

abbrev pub grant : Option Bytes → Privilege → Bytes → AclItem
grant grantee privilege grantor = record { grantee = grantee; rights = record { privilege = privilege; grant_option = false } ∷ []; grantor = grantor }

abbrev pub member : ℕ → ℕ → ℕ → ℕ → AuthMembersRow
member oid role of grantor = record { oid = oid; roleid = role; member = of; grantor = grantor; admin_option = false; inherit_option = true; set_option = true }

abbrev pub bob : AuthidRow
bob = role 16400 (codes "bob")

abbrev pub with_databases : List DatabaseRow → Catalogue
with_databases databases = catalogue (postgres ∷ []) [] databases (public ∷ [])

-- the item of an owner with these rights
abbrev pub owner_item : List Privilege → AclItem
owner_item privileges = record { grantee = Some (codes "postgres"); rights = map (λ p. record { privilege = p; grant_option = false }) privileges; grantor = codes "postgres" }

-- Schemas, roles and databases of other oids are the same by names, and so is another current database. One schema more
-- has three keys more. No rights at all aren't the default, which the owner's rights spelled out are.
pub record Names : Type 0 where
  pub other_oids : cluster_entries (with_schemas (schema 16384 (codes "a") 10 None ∷ [])) ≡ cluster_entries (with_schemas (schema 20000 (codes "a") 10 None ∷ []))
  pub other_role_oids : cluster_entries (catalogue (postgres ∷ bob ∷ []) (member 1 10 16400 10 ∷ []) (main ∷ []) []) ≡ cluster_entries (catalogue (postgres ∷ record bob { oid = 17 } ∷ []) (member 2 10 17 10 ∷ []) (main ∷ []) [])
  pub other_current : cluster_entries (with_databases (main ∷ [])) ≡ cluster_entries (with_databases (record main { datcurrent = false } ∷ []))
  pub one_more : cluster_entries (with_schemas (public ∷ schema 16384 (codes "a") 10 None ∷ [])) ≡ cluster_entries (with_schemas (public ∷ [])) ++ (key.Schema (codes "a"), value.Schema) ∷ (key.Owner (object.Schema (codes "a")), value.Owner (codes "postgres")) ∷ (key.Acl (object.Schema (codes "a")), value.Grants (owner_only schema_rights)) ∷ []
  pub spelled_out : grants_of on.Schema (codes "postgres") (Some (owner_item (privilege.Usage ∷ privilege.Create ∷ []) ∷ [])) ≡ grants_of on.Schema (codes "postgres") None
  pub repeated_letter : grants_of on.Schema (codes "postgres") (Some (owner_item (privilege.Usage ∷ privilege.Create ∷ privilege.Usage ∷ []) ∷ [])) ≡ grants_of on.Schema (codes "postgres") None
  pub no_items : grants_of on.Schema (codes "postgres") (Some []) ≡ from_entries []
  pub without_rights : grants_of on.Schema (codes "postgres") (Some (owner_item [] ∷ [])) ≡ from_entries []
  pub of_others : grants_of on.Schema (codes "postgres") (Some (grant (Some (codes "bob")) privilege.Usage (codes "postgres") ∷ grant None privilege.Usage (codes "postgres") ∷ [])) ≡ from_entries ((ROLE (codes "bob"), without_option type_rights) ∷ (PUBLIC, without_option type_rights) ∷ [])
  pub boot_role : boot (with_schemas []) ≡ Some (codes "postgres")
