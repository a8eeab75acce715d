-- What gives no rows.
use Rattle.std.proofs.Common.{◌≡◌, Bool, true, false, cond, List, [], ◌∷◌, ◌++◌, Option, Some, None, refl}
use Rattle.std.specs.List.{AllByRecursion, flat_map}
use Rattle.cat_rows.specs.declared.catalogue.Catalogue.{Catalogue}
use Rattle.cat_rows.specs.declared.roles.AuthidRow.{AuthidRow}
use Rattle.cat_rows.specs.declared.roles.AuthMembersRow.{AuthMembersRow}
use Rattle.cat_rows.specs.declared.roles.DatabaseRow.{DatabaseRow}
use Rattle.cat_rows.specs.declared.schemas.NamespaceRow.{NamespaceRow}
use Rattle.cat_rows.specs.declared.types.TypeRow.{TypeRow}
use Rattle.cat_rows.specs.declared.relations.ClassRow.{ClassRow}
use Rattle.cat_rows.specs.declared.relations.AttrdefRow.{AttrdefRow}
use Rattle.cat_rows.specs.declared.relations.RewriteRow.{RewriteRow}
use Rattle.cat_rows.specs.declared.constraints.ConstraintRow.{ConstraintRow}
use Rattle.cat_rows.specs.declared.sequences.SequenceRow.{SequenceRow}
use Rattle.cat_rows.specs.declared.notes.DescriptionRow.{DescriptionRow}
use Rattle.cat_model.specs.declared.object.QName.{QName}
use Rattle.cat_model.specs.declared.object.Object.{Object}
use Rattle.cat_model.specs.declared.key.Key.{Key}
use Rattle.cat_model.specs.declared.value.Value.{Value}
use Rattle.cat_model.specs.Values.{Bytes}
use Rattle.cat_names.specs.declared.rights.GrantKind.{GrantKind}
use Rattle.cat_names.specs.declared.rights.GrantKind.TheVariants as on
use Rattle.std.specs.Option.{option_map, option_and_then}
use Rattle.cat_model.specs.declared.constraint.Encoding.TheVariants as encoding
use Rattle.cat_model.specs.declared.key.Key.TheVariants as key
use Rattle.cat_model.specs.declared.object.Object.TheVariants as object
use Rattle.cat_model.specs.declared.value.Value.TheVariants as value
use Rattle.cat_names.specs.Grants.{grants_of}
use Rattle.cat_names.specs.Lookups.{is_no_oid, role_name}
use Rattle.cat_book.specs.Paths.{class_path_of, type_path}
use Rattle.constraint_table.specs.Said.{statement_said}
use Rattle.cat_lookups.specs.Found.{column_name, table_of_index}
use Rattle.row_texts.specs.DefaultTexts.{default_said}
use Rattle.row_texts.specs.SequenceTypes.{sequence_kind}
use Rattle.row_texts.specs.ViewTexts.{view_body}
use Rattle.text_tables.specs.Sequences.{numbers}
use Rattle.cat_names.specs.Naming.{Entry, under, role_entries, member_entries, database_entries, schema_entries, cluster_entries}
use Rattle.cat_naming.specs.Types.{under_path, with_value, type_value, type_rights, owned_type, type_entries}
use Rattle.cat_naming.specs.Relations.{default_entries, owned_entries, view_entries, index_relation_entries, owner_entries, sequence_entries, body_entries}
use Rattle.cat_naming.specs.Constraints.{constraint_value, constraint_entries, said_entries, index_entries}
use Rattle.cat_naming.specs.Comments.{commented_object, with_object, comment_entries}
use Rattle.row_texts.specs.declared.index_text.IndexText.{IndexText}
use Rattle.row_texts.specs.IndexTexts.{index_said}
use Rattle.rows_named.specs.Tables.{is_rows}

-- none of the entries is of a key of rows
pub record NoRows (es : List Entry) : Type 0 where
  pub all : AllByRecursion (λ e. is_rows e.0 ≡ false) es

nil : NoRows []
nil = record { all = tt }

one : {k : Key} {v : Value} {es : List Entry} → is_rows k ≡ false → NoRows es → NoRows ((k, v) ∷ es)
one clear more = record { all = (clear, more.all) }

joined : (a b : List Entry) → AllByRecursion (λ e. is_rows e.0 ≡ false) a → AllByRecursion (λ e. is_rows e.0 ≡ false) b → AllByRecursion (λ e. is_rows e.0 ≡ false) (a ++ b)
joined [] b front back = back
joined (e ∷ es) b front back = (front.0, joined es b front.1 back)

no_join : {a b : List Entry} → NoRows a → NoRows b → NoRows (a ++ b)
no_join {a = a} {b = b} front back = record { all = joined a b front.all back.all }

no_flat : {A : Type 0} (f : A → List Entry) → ((x : A) → NoRows (f x)) → (xs : List A) → NoRows (flat_map f xs)
no_flat f each [] = nil
no_flat f each (x ∷ xs) = no_join (each x) (no_flat f each xs)

no_under : (o : Option Bytes) (f : Bytes → List Entry) → ((x : Bytes) → NoRows (f x)) → NoRows (under o f)
no_under None f each = nil
no_under (Some x) f each = each x

no_path : (o : Option QName) (f : QName → List Entry) → ((x : QName) → NoRows (f x)) → NoRows (under_path o f)
no_path None f each = nil
no_path (Some x) f each = each x

no_value : (o : Option Value) (f : Value → List Entry) → ((x : Value) → NoRows (f x)) → NoRows (with_value o f)
no_value None f each = nil
no_value (Some x) f each = each x

-- ---- the cluster

no_role : (r : AuthidRow) → NoRows (role_entries r)
no_role r = one refl nil

no_member : (roles : List AuthidRow) (m : AuthMembersRow) → NoRows (member_entries roles m)
no_member roles m =
    let last : Bytes → Bytes → Bytes → List Entry = λ role member grantor. (key.Member role member grantor, value.Member (record { admin = m.admin_option; inherit = m.inherit_option; «set» = m.set_option })) ∷ [] in
    let second : Bytes → Bytes → List Entry = λ role member. under (role_name roles m.grantor) (last role member) in
    no_under (role_name roles m.roleid) (λ role. under (role_name roles m.member) (second role)) (λ role.
    no_under (role_name roles m.member) (second role) (λ member.
    no_under (role_name roles m.grantor) (last role member) (λ grantor. one refl nil)))

no_database : (roles : List AuthidRow) (d : DatabaseRow) → NoRows (database_entries roles d)
no_database roles d =
    no_under (role_name roles d.datdba) (λ owner. (key.Database d.datname, value.Database encoding.Utf8) ∷ (key.Owner (object.Database d.datname), value.Owner owner) ∷ []) (λ owner. one refl (one refl nil))

no_schema : (roles : List AuthidRow) (s : NamespaceRow) → NoRows (schema_entries roles s)
no_schema roles s =
    no_under (role_name roles s.nspowner) (λ owner. (key.Schema s.nspname, value.Schema) ∷ (key.Owner (object.Schema s.nspname), value.Owner owner) ∷ (key.Acl (object.Schema s.nspname), value.Grants (grants_of on.Schema owner s.nspacl)) ∷ [])
    (λ owner. one refl (one refl (one refl nil)))

pub no_cluster : (cat : Catalogue) → NoRows (cluster_entries cat)
no_cluster cat =
    no_join (no_join (no_join
    (no_flat role_entries no_role cat.pg_authid)
    (no_flat (member_entries cat.pg_authid) (no_member cat.pg_authid) cat.pg_auth_members))
    (no_flat (database_entries cat.pg_authid) (no_database cat.pg_authid) cat.pg_database))
    (no_flat (schema_entries cat.pg_authid) (no_schema cat.pg_authid) cat.pg_namespace)

-- ---- types

no_type : (cat : Catalogue) (row : TypeRow) → NoRows (type_entries cat row)
no_type cat row =
    let last : QName → Bytes → Value → List Entry = λ path owner v. (key.UserType path, v) ∷ type_rights row path owner in
    no_path (type_path cat.pg_namespace row) (λ path. under (role_name cat.pg_authid row.typowner) (owned_type cat row path)) (λ path.
    no_under (role_name cat.pg_authid row.typowner) (owned_type cat row path) (λ owner.
    no_value (type_value cat row) (last path owner) (λ v. one refl (one refl (one refl nil)))))

pub no_types : (cat : Catalogue) → NoRows (flat_map (type_entries cat) cat.pg_type)
no_types cat = no_flat (type_entries cat) (no_type cat) cat.pg_type

-- ---- relations that are no tables

pub no_owned : (cat : Catalogue) (kind : GrantKind) (row : ClassRow) (path : QName) → NoRows (owned_entries cat kind row path)
no_owned cat kind row path =
    no_under (role_name cat.pg_authid row.relowner) (λ owner. (key.Owner (object.Relation path), value.Owner owner) ∷ (key.Acl (object.Relation path), value.Grants (grants_of kind owner row.relacl)) ∷ [])
    (λ owner. one refl (one refl nil))

pub no_view : (cat : Catalogue) (row : ClassRow) (path : QName) → NoRows (view_entries cat row path)
no_view cat row path = one refl (no_owned cat on.Table row path)

pub no_index_relation : (cat : Catalogue) (row : ClassRow) (path : QName) → NoRows (index_relation_entries cat row path)
no_index_relation cat row path =
    no_path (option_and_then (class_path_of cat) (table_of_index cat row.oid)) (λ table. (key.Rel path, value.IndexOf table) ∷ []) (λ table. one refl nil)

-- ---- what stands behind the relations

no_default : (cat : Catalogue) (row : AttrdefRow) → NoRows (default_entries cat row)
no_default cat row =
    let last : QName → Bytes → Bytes → List Entry = λ table column text. (key.Default table column, value.DefaultText text) ∷ [] in
    let second : QName → Bytes → List Entry = λ table column. under (default_said row.adexpr) (last table column) in
    no_path (class_path_of cat row.adrelid) (λ table. under (column_name cat row.adrelid row.adnum) (second table)) (λ table.
    no_under (column_name cat row.adrelid row.adnum) (second table) (λ column.
    no_under (default_said row.adexpr) (last table column) (λ text. one refl nil)))

no_constraint : (cat : Catalogue) (row : ConstraintRow) → NoRows (constraint_entries cat row)
no_constraint cat row =
    let value_said : Option Value = option_and_then constraint_value (statement_said row.condef) in
    no_path (class_path_of cat row.conrelid) (λ table. with_value value_said (λ v. (key.Con table row.conname, v) ∷ [])) (λ table.
    no_value value_said (λ v. (key.Con table row.conname, v) ∷ []) (λ v. one refl nil))

no_said : (said : Option IndexText) → NoRows (said_entries said)
no_said None = nil
no_said (Some said) = one refl nil

either : (b : Bool) {es : List Entry} → NoRows es → NoRows (cond b [] es)
either true clear = nil
either false clear = clear

no_owner : (cat : Catalogue) (row : SequenceRow) (path : QName) → NoRows (owner_entries cat row path)
no_owner cat row path =
    let last : QName → Bytes → List Entry = λ table column. (key.OwnedBy path, value.OwnedBy table column) ∷ [] in
    either (is_no_oid row.ownrel)
    (no_path (class_path_of cat row.ownrel) (λ table. under (column_name cat row.ownrel row.owncol) (last table)) (λ table.
    no_under (column_name cat row.ownrel row.owncol) (last table) (λ column. one refl nil)))

no_sequence : (cat : Catalogue) (row : SequenceRow) → NoRows (sequence_entries cat row)
no_sequence cat row =
    let said : Option Value = option_map (λ kind. value.Sequence (numbers kind row)) (sequence_kind row.seqtype) in
    let last : QName → Value → List Entry = λ path v. (key.Rel path, v) ∷ (key.SeqVal path, value.SequenceValue row.last_value row.is_called) ∷ owner_entries cat row path in
    no_path (class_path_of cat row.seqrelid) (λ path. with_value said (last path)) (λ path.
    no_value said (last path) (λ v. one refl (one refl (no_owner cat row path))))

no_body : (cat : Catalogue) (row : RewriteRow) → NoRows (body_entries cat row)
no_body cat row =
    let last : QName → Bytes → List Entry = λ path body. (key.Body path, value.Body body) ∷ [] in
    no_path (class_path_of cat row.ev_class) (λ path. under (view_body row.viewdef) (last path)) (λ path.
    no_under (view_body row.viewdef) (last path) (λ body. one refl nil))

no_object : (row : DescriptionRow) (o : Option Object) → NoRows (with_object row o)
no_object row None = nil
no_object row (Some o) = one refl nil

abbrev pub behind_classes : Catalogue → List Entry
behind_classes cat =
    flat_map (default_entries cat) cat.pg_attrdef
    ++ flat_map (constraint_entries cat) cat.pg_constraint
    ++ flat_map index_entries cat.pg_index
    ++ flat_map (sequence_entries cat) cat.pg_sequence
    ++ flat_map (body_entries cat) cat.pg_rewrite
    ++ flat_map (comment_entries cat) cat.pg_description

pub no_behind : (cat : Catalogue) → NoRows (behind_classes cat)
no_behind cat =
    no_join (no_join (no_join (no_join (no_join
    (no_flat (default_entries cat) (no_default cat) cat.pg_attrdef)
    (no_flat (constraint_entries cat) (no_constraint cat) cat.pg_constraint))
    (no_flat index_entries (λ row. no_said (index_said row.indexdef)) cat.pg_index))
    (no_flat (sequence_entries cat) (no_sequence cat) cat.pg_sequence))
    (no_flat (body_entries cat) (no_body cat) cat.pg_rewrite))
    (no_flat (comment_entries cat) (λ row. no_object row (commented_object cat row)) cat.pg_description)

-- the relations that are no tables, by what they are
pub no_view_or_else : (cat : Catalogue) (row : ClassRow) (q : QName) (v s i : Bool) → NoRows (cond v (view_entries cat row q) (cond s (owned_entries cat on.Sequence row q) (cond i (index_relation_entries cat row q) [])))
no_view_or_else cat row q true s i = no_view cat row q
no_view_or_else cat row q false true i = no_owned cat on.Sequence row q
no_view_or_else cat row q false false true = no_index_relation cat row q
no_view_or_else cat row q false false false = nil
