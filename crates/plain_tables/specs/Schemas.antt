-- The conditions of pg_namespace.
use Rattle.std.specs.Prelude.{true, not, ◌||◌}
use Rattle.cat_rows.specs.declared.catalogue.Catalogue.{Catalogue}
use Rattle.cat_rows.specs.declared.schemas.NamespaceRow.{NamespaceRow}
use Rattle.cat_model.specs.References.{is_system}
use Rattle.cat_names.specs.declared.rights.GrantKind.TheVariants as on
use Rattle.cat_names.specs.Lookups.{is_role, role_name}
use Rattle.cat_names.specs.Rights.{is_bad_acl, is_by_other, other_left_out}
use Rattle.cat_book.specs.Rules.{Rules, named}

-- oids and names are distinct, the owner is a role and grants all rights, they are those of schemas, and the system's own
-- schemas have no rows
abbrev pub schema_rules : Rules Catalogue NamespaceRow
schema_rules = record {
  keys = λ row. named row.oid row.nspname;
  unmet = λ cat row. record {
    dangles = not (is_role cat.pg_authid row.nspowner);
    is_bad = is_system row.nspname || is_bad_acl on.Schema cat.pg_authid row.nspacl;
    left_out = other_left_out (is_by_other (role_name cat.pg_authid row.nspowner) row.nspacl);
  };
  needed = λ cat. true;
}
