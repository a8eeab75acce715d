-- What the rows of pg_class, pg_attribute, pg_attrdef, pg_sequence and pg_rewrite stand for by names, with the rows of
-- tables.
use Rattle.std.specs.Prelude.{ℕ, List, [], ◌∷◌, filter_map, Option, Some, if◌then◌else◌}
use Rattle.std.specs.List.{filter}
use Rattle.std.specs.Option.{option_map, option_and_then}
use Rattle.cat_rows.specs.declared.catalogue.Catalogue.{Catalogue}
use Rattle.cat_rows.specs.declared.relations.ClassRow.{ClassRow}
use Rattle.cat_rows.specs.declared.relations.AttributeRow.{AttributeRow}
use Rattle.cat_rows.specs.declared.relations.AttrdefRow.{AttrdefRow}
use Rattle.cat_rows.specs.declared.relations.RewriteRow.{RewriteRow}
use Rattle.cat_rows.specs.declared.sequences.SequenceRow.{SequenceRow}
use Rattle.cat_model.specs.declared.object.QName.{QName}
use Rattle.cat_model.specs.declared.object.Object.TheVariants as object
use Rattle.cat_model.specs.declared.key.Key.TheVariants as key
use Rattle.cat_model.specs.declared.type_name.TypeName.{TypeName}
use Rattle.cat_model.specs.declared.value.Value.TheVariants as value
use Rattle.cat_model.specs.declared.value.Column.{Column}
use Rattle.cat_model.specs.declared.value.Resolved.{Resolved}
use Rattle.cat_model.specs.Values.{Row}
use Rattle.cat_names.specs.declared.rights.GrantKind.{GrantKind}
use Rattle.cat_names.specs.declared.rights.GrantKind.TheVariants as on
use Rattle.cat_names.specs.Grants.{grants_of}
use Rattle.cat_names.specs.Kinds.{relation_kind, is_table, is_view, is_sequence, is_index}
use Rattle.cat_names.specs.Lookups.{same_oid, role_name, is_no_oid}
use Rattle.cat_names.specs.Naming.{Entry, under}
use Rattle.cat_book.specs.Paths.{class_path, class_path_of}
use Rattle.row_texts.specs.SequenceTypes.{sequence_kind}
use Rattle.constraint_table.specs.Sequences.{numbers}
use Rattle.row_texts.specs.ViewTexts.{view_body}
use Rattle.oid_groups.specs.Orders.{by_number}
use Rattle.cat_lookups.specs.Found.{column_name, table_of_index}
use Rattle.cat_naming.specs.Types.{under_path, with_value, typed}
use Rattle.row_texts.specs.DefaultTexts.{default_said}

-- the rows of each table, by its oid
abbrev pub RowsByOid : Type 0
RowsByOid = ℕ → List Row

-- ---- columns

-- a column whose type is named so and comes to that
abbrev pub column_with : AttributeRow → TypeName × Resolved → Column
column_with row type = record { name = row.attname; type_name = type.0; resolved = type.1; not_null = row.attnotnull }

abbrev pub column_of : Catalogue → AttributeRow → Option Column
column_of cat row = option_map (column_with row) (typed cat row.atttypid row.typtext)

-- the columns of a table by rising numbers; gaps between the numbers close up
abbrev pub columns_of : Catalogue → ℕ → List Column
columns_of cat oid = filter_map (column_of cat) (by_number (λ a. a.attnum) (filter (λ a. same_oid oid a.attrelid) cat.pg_attribute))

-- the default of a column
abbrev pub default_entries : Catalogue → AttrdefRow → List Entry
default_entries cat row =
    under_path (class_path_of cat row.adrelid) (λ table.
    under (column_name cat row.adrelid row.adnum) (λ column.
    under (default_said row.adexpr) (λ text.
    (key.Default table column, value.DefaultText text) ∷ [])))

-- ---- relations

-- an owner and grants
abbrev pub owned_entries : Catalogue → GrantKind → ClassRow → QName → List Entry
owned_entries cat kind row path =
    under (role_name cat.pg_authid row.relowner) (λ owner.
    (key.Owner (object.Relation path), value.Owner owner)
    ∷ (key.Acl (object.Relation path), value.Grants (grants_of kind owner row.relacl))
    ∷ [])

-- a table with its rows
abbrev pub table_entries : Catalogue → RowsByOid → ClassRow → QName → List Entry
table_entries cat rows row path =
    (key.Rel path, value.Table (columns_of cat row.oid))
    ∷ (key.Rows path, value.Rows (rows row.oid))
    ∷ owned_entries cat on.Table row path

abbrev pub view_entries : Catalogue → ClassRow → QName → List Entry
view_entries cat row path = (key.Rel path, value.View) ∷ owned_entries cat on.Table row path

-- an index as a relation, of its table
abbrev pub index_relation_entries : Catalogue → ClassRow → QName → List Entry
index_relation_entries cat row path =
    under_path (option_and_then (class_path_of cat) (table_of_index cat row.oid)) (λ table. (key.Rel path, value.IndexOf table) ∷ [])

-- a relation by its letter; what a sequence is stands in pg_sequence
abbrev pub relation_entries : Catalogue → RowsByOid → ClassRow → QName → List Entry
relation_entries cat rows row path =
    if is_table (Some (relation_kind row.relkind)) then table_entries cat rows row path
    else if is_view (Some (relation_kind row.relkind)) then view_entries cat row path
    else if is_sequence (Some (relation_kind row.relkind)) then owned_entries cat on.Sequence row path
    else if is_index (Some (relation_kind row.relkind)) then index_relation_entries cat row path
    else []

abbrev pub class_entries : Catalogue → RowsByOid → ClassRow → List Entry
class_entries cat rows row = under_path (class_path cat.pg_namespace row) (relation_entries cat rows row)

-- ---- sequences

-- the column that owns a sequence, if one does
abbrev pub owner_entries : Catalogue → SequenceRow → QName → List Entry
owner_entries cat row path =
    if is_no_oid row.ownrel then []
    else under_path (class_path_of cat row.ownrel) (λ table. under (column_name cat row.ownrel row.owncol) (λ column. (key.OwnedBy path, value.OwnedBy table column) ∷ []))

abbrev pub sequence_entries : Catalogue → SequenceRow → List Entry
sequence_entries cat row =
    under_path (class_path_of cat row.seqrelid) (λ path.
    with_value (option_map (λ kind. value.Sequence (numbers kind row)) (sequence_kind row.seqtype)) (λ v.
    (key.Rel path, v) ∷ (key.SeqVal path, value.SequenceValue row.last_value row.is_called) ∷ owner_entries cat row path))

-- ---- views

abbrev pub body_entries : Catalogue → RewriteRow → List Entry
body_entries cat row =
    under_path (class_path_of cat row.ev_class) (λ path.
    under (view_body row.viewdef) (λ body.
    (key.Body path, value.Body body) ∷ []))
