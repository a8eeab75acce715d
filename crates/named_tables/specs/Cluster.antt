-- When the rows of pg_authid, pg_auth_members, pg_database and pg_namespace stand for a catalogue by names, whose objects
-- have these oids, and of which one database is the current one.
use Rattle.std.specs.Prelude.{◌≡◌, Some, codes}
use Rattle.std.specs.FinMap.{get}
use Rattle.cat_rows.specs.declared.catalogue.Catalogue.{Catalogue}
use Rattle.cat_rows.specs.declared.roles.AuthidRow.{AuthidRow}
use Rattle.cat_rows.specs.declared.roles.AuthMembersRow.{AuthMembersRow}
use Rattle.cat_rows.specs.declared.roles.DatabaseRow.{DatabaseRow}
use Rattle.cat_rows.specs.declared.schemas.NamespaceRow.{NamespaceRow}
use Rattle.cat_model.specs.declared.constraint.Encoding.TheVariants as encoding
use Rattle.cat_model.specs.declared.key.Key.TheVariants as key
use Rattle.cat_model.specs.declared.object.Object.TheVariants as object
use Rattle.cat_model.specs.declared.value.Value.TheVariants as value
use Rattle.cat_model.specs.declared.value.Role.{Role}
use Rattle.cat_model.specs.declared.value.Membership.{Membership}
use Rattle.cat_model.specs.Lexemes.{same_text}
use Rattle.cat_model.specs.Values.{Bytes, Named, Grants}
use Rattle.cat_names.specs.declared.rights.GrantKind.TheVariants as on
use Rattle.named_tables.specs.Oids.{Oids}
use Rattle.named_tables.specs.Rights.{IsAcl}
use Rattle.named_tables.specs.Standing.{AreRowsOf}

-- ---- roles

pub record NamedRole : Type 0 where
  pub name : Bytes
  pub role : Role

abbrev pub IsRole : Named → NamedRole → Type 0
IsRole named r = get named (key.Role r.name) ≡ Some (value.Role r.role)

abbrev pub role_row : Oids → NamedRole → AuthidRow
role_row oids r = record {
  oid = oids (key.Role r.name);
  rolname = r.name;
  rolsuper = r.role.superuser;
  rolinherit = r.role.inherit;
  rolcreaterole = r.role.create_role;
  rolcreatedb = r.role.create_db;
  rolcanlogin = r.role.login;
  rolreplication = r.role.replication;
  rolbypassrls = r.role.bypass_rls;
  rolconnlimit = r.role.limit;
  rolpassword = r.role.password;
  rolvaliduntil = r.role.valid_until;
}

-- ---- memberships

pub record NamedMember : Type 0 where
  pub role : Bytes
  pub member : Bytes
  pub grantor : Bytes
  pub options : Membership

abbrev pub IsMember : Named → NamedMember → Type 0
IsMember named m = get named (key.Member m.role m.member m.grantor) ≡ Some (value.Member m.options)

abbrev pub member_row : Oids → NamedMember → AuthMembersRow
member_row oids m = record {
  oid = oids (key.Member m.role m.member m.grantor);
  roleid = oids (key.Role m.role);
  member = oids (key.Role m.member);
  grantor = oids (key.Role m.grantor);
  admin_option = m.options.admin;
  inherit_option = m.options.inherit;
  set_option = m.options.«set»;
}

-- ---- databases

pub record NamedDatabase : Type 0 where
  pub name : Bytes
  pub owner : Bytes

pub record IsDatabase (named : Named) (d : NamedDatabase) : Type 0 where
  pub there : get named (key.Database d.name) ≡ Some (value.Database encoding.Utf8)
  pub owner : get named (key.Owner (object.Database d.name)) ≡ Some (value.Owner d.owner)

abbrev pub database_row : Oids → Bytes → NamedDatabase → DatabaseRow
database_row oids current d = record {
  oid = oids (key.Database d.name);
  datname = d.name;
  datdba = oids (key.Role d.owner);
  encoding = codes "UTF8";
  datcurrent = same_text d.name current;
}

-- ---- schemas

pub record NamedSchema : Type 0 where
  pub name : Bytes
  pub owner : Bytes
  pub grants : Grants

pub record IsSchema (named : Named) (s : NamedSchema) : Type 0 where
  pub there : get named (key.Schema s.name) ≡ Some value.Schema
  pub owner : get named (key.Owner (object.Schema s.name)) ≡ Some (value.Owner s.owner)
  pub grants : get named (key.Acl (object.Schema s.name)) ≡ Some (value.Grants s.grants)

pub record IsSchemaRow (oids : Oids) (s : NamedSchema) (row : NamespaceRow) : Type 0 where
  pub oid : row.oid ≡ oids (key.Schema s.name)
  pub name : row.nspname ≡ s.name
  pub owner : row.nspowner ≡ oids (key.Role s.owner)
  pub rights : IsAcl on.Schema s.owner s.grants row.nspacl

-- ---- the four tables

pub record StandsFor (named : Named) (oids : Oids) (current : Bytes) (cat : Catalogue) : Type 0 where
  pub roles : AreRowsOf (IsRole named) (λ r row. row ≡ role_row oids r) cat.pg_authid
  pub members : AreRowsOf (IsMember named) (λ m row. row ≡ member_row oids m) cat.pg_auth_members
  pub databases : AreRowsOf (IsDatabase named) (λ d row. row ≡ database_row oids current d) cat.pg_database
  pub schemas : AreRowsOf (IsSchema named) (IsSchemaRow oids) cat.pg_namespace
