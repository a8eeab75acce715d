-- The conditions of pg_class.
use Rattle.std.specs.Prelude.{ℕ, Bool, true, false, not, ◌&&◌, ◌==◌, nat_lt, List, Option, Some, None, is_some, if◌then◌else◌}
use Rattle.acl_text.specs.declared.list.AclItem.{AclItem}
use Rattle.cat_rows.specs.declared.catalogue.Catalogue.{Catalogue}
use Rattle.cat_rows.specs.declared.roles.AuthidRow.{AuthidRow}
use Rattle.cat_rows.specs.declared.relations.ClassRow.{ClassRow}
use Rattle.cat_model.specs.declared.words.What.{What}
use Rattle.cat_model.specs.declared.words.What.TheVariants as what
use Rattle.cat_names.specs.declared.relations.RelationKind.{RelationKind}
use Rattle.cat_names.specs.declared.relations.RelationKind.TheVariants.{Table, View, Sequence, Index, Other}
use Rattle.cat_names.specs.declared.rights.GrantKind.TheVariants as on
use Rattle.cat_names.specs.Kinds.{relation_kind}
use Rattle.cat_names.specs.Lookups.{has_oid, is_role, role_name, schema_oids}
use Rattle.cat_names.specs.Findings.{left_out_first}
use Rattle.cat_names.specs.Rights.{is_bad_acl, is_by_other, other_left_out}
use Rattle.cat_book.specs.Leads.{column_count, has_own_row}
use Rattle.cat_book.specs.Rules.{Rules, named_in}

-- the schema, the owner and the row of the relation's own in another table are there
abbrev pub is_there : Catalogue → ClassRow → Bool
is_there cat row = has_oid (schema_oids cat.pg_namespace) row.relnamespace && (is_role cat.pg_authid row.relowner && has_own_row cat (relation_kind row.relkind) row.oid)

-- an index has no rights, not even none
abbrev pub is_bad_relation_acl : RelationKind → List AuthidRow → Option (List AclItem) → Bool
is_bad_relation_acl Table roles acl = is_bad_acl on.Table roles acl
is_bad_relation_acl View roles acl = is_bad_acl on.Table roles acl
is_bad_relation_acl Sequence roles acl = is_bad_acl on.Sequence roles acl
is_bad_relation_acl Index roles acl = is_some acl
is_bad_relation_acl (Other letter) roles acl = false

abbrev pub kind_left_out : RelationKind → Option What
kind_left_out (Other letter) = Some (what.RelKind letter)
kind_left_out _ = None

-- relations are permanent
abbrev pub persistence_left_out : ℕ → Option What
persistence_left_out letter = if letter == 112 then None else Some what.Persistence

abbrev pub most_columns : ℕ
most_columns = 1600

abbrev pub columns_left_out : Catalogue → RelationKind → ℕ → Option What
columns_left_out cat Table oid = if nat_lt most_columns (column_count cat oid) then Some what.Columns else None
columns_left_out cat _ oid = None

-- the first of what is left out, in the order of the columns, and the number of columns last
abbrev pub relation_left_out : Catalogue → ClassRow → Option What
relation_left_out cat row =
    left_out_first (kind_left_out (relation_kind row.relkind))
    (left_out_first (persistence_left_out row.relpersistence)
    (left_out_first (other_left_out (is_by_other (role_name cat.pg_authid row.relowner) row.relacl))
    (columns_left_out cat (relation_kind row.relkind) row.oid)))

-- oids are distinct, names within a schema; what a relation leads to is there, and its rights are those of its kind
abbrev pub relation_rules : Rules Catalogue ClassRow
relation_rules = record {
  keys = λ row. named_in row.oid row.relnamespace row.relname;
  unmet = λ cat row. record {
    dangles = not (is_there cat row);
    is_bad = is_bad_relation_acl (relation_kind row.relkind) cat.pg_authid row.relacl;
    left_out = relation_left_out cat row;
  };
  needed = λ cat. true;
}
