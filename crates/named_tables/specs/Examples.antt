-- Worked examples: the rows of an empty cluster, and rows that don't stand for it, each for one reason.
use Rattle.std.specs.Prelude.{◌≡◌, negsuc, true, false, [], ◌∷◌, length, map, Some, None, codes}
use Rattle.acl_text.specs.declared.list.AclItem.{AclItem}
use Rattle.acl_text.specs.declared.rights.Right.{Right}
use Rattle.acl_text.specs.declared.rights.Privilege.{Privilege}
use Rattle.acl_text.specs.declared.rights.Privilege.TheVariants as letter
use Rattle.cat_rows.specs.declared.catalogue.Catalogue.{Catalogue}
use Rattle.cat_rows.specs.declared.roles.AuthidRow.{AuthidRow}
use Rattle.cat_rows.specs.declared.roles.DatabaseRow.{DatabaseRow}
use Rattle.cat_rows.specs.declared.schemas.NamespaceRow.{NamespaceRow}
use Rattle.cat_model.specs.declared.holder.Holder.TheVariants as holder
use Rattle.cat_model.specs.declared.key.Key.TheVariants as key
use Rattle.cat_model.specs.Grants.{no_rights, schema_rights, table_rights, without_option}
use Rattle.model_laws.specs.Examples.{postgres}
use Rattle.model_laws.specs.Runs.{empty_cluster}
use Rattle.named_tables.specs.Cluster.{StandsFor, NamedMember, member_row}
use Rattle.named_tables.specs.Oids.{Oids, AreOids, IsStarted}
use Rattle.named_tables.specs.Rights.{acl_item}

-- ---- an empty cluster

-- the oids that initdb gives
abbrev pub first_oids : Oids
first_oids (key.Role name) = 10
first_oids (key.Database name) = 5
first_oids (key.Schema name) = 2200
first_oids _ = 16384

abbrev pub boot_row : AuthidRow
boot_row = record {
  oid = 10;
  rolname = postgres;
  rolsuper = true;
  rolinherit = true;
  rolcreaterole = true;
  rolcreatedb = true;
  rolcanlogin = true;
  rolreplication = true;
  rolbypassrls = true;
  rolconnlimit = negsuc 0;
  rolpassword = None;
  rolvaliduntil = None;
}

abbrev pub database : DatabaseRow
database = record { oid = 5; datname = postgres; datdba = 10; encoding = codes "UTF8"; datcurrent = true }

abbrev pub public : NamespaceRow
public = record { oid = 2200; nspname = codes "public"; nspowner = 10; nspacl = None }

abbrev pub first_rows : Catalogue
first_rows = record {
  pg_authid = boot_row ∷ [];
  pg_auth_members = [];
  pg_database = database ∷ [];
  pg_namespace = public ∷ [];
  pg_type = [];
  pg_enum = [];
  pg_class = [];
  pg_attribute = [];
  pg_attrdef = [];
  pg_constraint = [];
  pg_index = [];
  pg_sequence = [];
  pg_rewrite = [];
  pg_description = [];
  pg_depend = [];
}

-- these rows stand for the empty cluster, with these oids and this current database
abbrev pub Stand : Catalogue → Type 0
Stand cat = StandsFor empty_cluster first_oids postgres cat

pub record Empty : Type 0 where
  pub oids : AreOids empty_cluster first_oids
  pub started : IsStarted empty_cluster first_oids postgres
  pub stand : Stand first_rows

-- ---- not of an empty cluster

abbrev pub right : Privilege → Right
right privilege = record { privilege = privilege; grant_option = false }

-- all rights on a schema, as its owner has them
abbrev pub spelled : AclItem
spelled = record { grantee = Some postgres; rights = right letter.Usage ∷ right letter.Create ∷ []; grantor = postgres }

pub record Others : Type 0 where
  pub no_schema : Stand (record first_rows { pg_namespace = [] }) → ⊥
  pub one_more : Stand (record first_rows { pg_namespace = public ∷ record public { oid = 2201; nspname = codes "a" } ∷ [] }) → ⊥
  pub role_twice : Stand (record first_rows { pg_authid = boot_row ∷ boot_row ∷ [] }) → ⊥
  pub other_attribute : Stand (record first_rows { pg_authid = record boot_row { rolcanlogin = false } ∷ [] }) → ⊥
  pub other_oid : Stand (record first_rows { pg_database = record database { oid = 6 } ∷ [] }) → ⊥
  pub not_current : Stand (record first_rows { pg_database = record database { datcurrent = false } ∷ [] }) → ⊥
  pub default_written : Stand (record first_rows { pg_namespace = record public { nspacl = Some (spelled ∷ []) } ∷ [] }) → ⊥

-- ---- values

abbrev pub bob_in_ops : NamedMember
bob_in_ops = record { role = codes "ops"; member = codes "bob"; grantor = postgres; options = record { admin = true; inherit = false; «set» = true } }

-- roles numbered by the length of their names
abbrev pub by_length : Oids
by_length (key.Role name) = length name
by_length _ = 16390

pub record Values : Type 0 where
  pub member : member_row by_length bob_in_ops ≡ record { oid = 16390; roleid = 3; member = 3; grantor = 8; admin_option = true; inherit_option = false; set_option = true }
  pub owners : acl_item postgres (holder.Owner, without_option schema_rights) ≡ spelled
  pub everyones : acl_item postgres (holder.Public, record { rights = record no_rights { usage = true }; options = record no_rights { usage = true } }) ≡ record { grantee = None; rights = record { privilege = letter.Usage; grant_option = true } ∷ []; grantor = postgres }
  pub table_letters : map (λ r. r.privilege) (acl_item postgres (holder.Role (codes "bob"), without_option table_rights)).rights ≡ letter.Insert ∷ letter.Select ∷ letter.Update ∷ letter.Delete ∷ letter.Truncate ∷ letter.References ∷ letter.Trigger ∷ []
