-- The catalogue by names that the tables of roles, memberships, databases and schemas stand for: each row gives its
-- keys and values, and each oid is replaced by the name of the row that it leads to. No oid is left.
use Rattle.std.specs.Prelude.{List, [], ◌∷◌, ◌++◌, Option, Some, None}
use Rattle.std.specs.List.{flat_map}
use Rattle.std.specs.FinMap.{from_entries}
use Rattle.cat_rows.specs.declared.catalogue.Catalogue.{Catalogue}
use Rattle.cat_rows.specs.declared.roles.AuthidRow.{AuthidRow}
use Rattle.cat_rows.specs.declared.roles.AuthMembersRow.{AuthMembersRow}
use Rattle.cat_rows.specs.declared.roles.DatabaseRow.{DatabaseRow}
use Rattle.cat_rows.specs.declared.schemas.NamespaceRow.{NamespaceRow}
use Rattle.cat_model.specs.declared.constraint.Encoding.TheVariants as encoding
use Rattle.cat_model.specs.declared.key.Key.{Key}
use Rattle.cat_model.specs.declared.key.Key.TheVariants as key
use Rattle.cat_model.specs.declared.object.Object.TheVariants as object
use Rattle.cat_model.specs.declared.value.Value.TheVariants as value
use Rattle.cat_model.specs.declared.value.Value.{Value}
use Rattle.cat_model.specs.Values.{Bytes, Named}
use Rattle.cat_names.specs.declared.rights.GrantKind.TheVariants as on
use Rattle.cat_names.specs.Grants.{grants_of}
use Rattle.cat_names.specs.Lookups.{boot_oid, role_name}

abbrev pub Entry : Type 0
Entry = Key × Value

-- what stands under a name; nothing where an oid leads to no row
abbrev pub under : Option Bytes → (Bytes → List Entry) → List Entry
under None entries = []
under (Some name) entries = entries name

-- a role's attributes
abbrev pub role_entries : AuthidRow → List Entry
role_entries r = (
  key.Role r.rolname,
  value.Role (record {
    superuser = r.rolsuper;
    inherit = r.rolinherit;
    create_role = r.rolcreaterole;
    create_db = r.rolcreatedb;
    login = r.rolcanlogin;
    replication = r.rolreplication;
    bypass_rls = r.rolbypassrls;
    limit = r.rolconnlimit;
    password = r.rolpassword;
    valid_until = r.rolvaliduntil;
  }),
) ∷ []

-- a membership, by the names of the role, its member and the grantor
abbrev pub member_entries : List AuthidRow → AuthMembersRow → List Entry
member_entries roles m =
    under (role_name roles m.roleid) (λ role.
    under (role_name roles m.member) (λ member.
    under (role_name roles m.grantor) (λ grantor.
    (key.Member role member grantor, value.Member (record { admin = m.admin_option; inherit = m.inherit_option; «set» = m.set_option })) ∷ [])))

-- a database and its owner; which one is the current one gives nothing
abbrev pub database_entries : List AuthidRow → DatabaseRow → List Entry
database_entries roles d =
    under (role_name roles d.datdba) (λ owner.
    (key.Database d.datname, value.Database encoding.Utf8) ∷ (key.Owner (object.Database d.datname), value.Owner owner) ∷ [])

-- a schema, its owner and its grants
abbrev pub schema_entries : List AuthidRow → NamespaceRow → List Entry
schema_entries roles s =
    under (role_name roles s.nspowner) (λ owner.
    (key.Schema s.nspname, value.Schema)
    ∷ (key.Owner (object.Schema s.nspname), value.Owner owner)
    ∷ (key.Acl (object.Schema s.nspname), value.Grants (grants_of on.Schema owner s.nspacl))
    ∷ [])

-- all entries of these tables
abbrev pub cluster_entries : Catalogue → List Entry
cluster_entries cat =
    flat_map role_entries cat.pg_authid
    ++ flat_map (member_entries cat.pg_authid) cat.pg_auth_members
    ++ flat_map (database_entries cat.pg_authid) cat.pg_database
    ++ flat_map (schema_entries cat.pg_authid) cat.pg_namespace

-- what they stand for
abbrev pub cluster_named : Catalogue → Named
cluster_named cat = from_entries (cluster_entries cat)

-- the name of the role to which a new cluster's objects belong
abbrev pub boot : Catalogue → Option Bytes
boot cat = role_name cat.pg_authid boot_oid
