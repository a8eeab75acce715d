-- The objects of a catalogue that a selection chooses, each with the names by which objects are ordered.
-- A schema has no schema; rows, values and constraints stand in the schema of their relation; the boundaries have no names.
use Rattle.std.specs.Prelude.{ℕ, pos, Bool, false, not, ◌&&◌, List, [], ◌∷◌, ◌++◌, filter_map, Option, Some, None, option_map, if◌then◌else◌}
use Rattle.std.specs.Option.{option_and_then}
use Rattle.cat_rows.specs.declared.catalogue.Catalogue.{Catalogue}
use Rattle.cat_rows.specs.declared.schemas.NamespaceRow.{NamespaceRow}
use Rattle.cat_rows.specs.declared.types.TypeRow.{TypeRow}
use Rattle.cat_rows.specs.declared.relations.ClassRow.{ClassRow}
use Rattle.cat_rows.specs.declared.relations.AttrdefRow.{AttrdefRow}
use Rattle.cat_rows.specs.declared.relations.IndexRow.{IndexRow}
use Rattle.cat_rows.specs.declared.relations.RewriteRow.{RewriteRow}
use Rattle.cat_rows.specs.declared.constraints.ConstraintRow.{ConstraintRow}
use Rattle.cat_model.specs.declared.object.QName.{QName}
use Rattle.cat_model.specs.Values.{Bytes}
use Rattle.cat_names.specs.declared.relations.RelationKind.{RelationKind}
use Rattle.cat_names.specs.declared.relations.RelationKind.TheVariants as relation
use Rattle.cat_names.specs.Kinds.{relation_kind, class_of}
use Rattle.cat_book.specs.Leads.{is_key}
use Rattle.cat_book.specs.Paths.{class_path, class_path_of}
use Rattle.constraint_table.specs.Table.{is_foreign}
use Rattle.graph_parts.specs.declared.object.Obj.{Obj}
use Rattle.graph_parts.specs.declared.object.ObjId.{ObjId}
use Rattle.graph_parts.specs.declared.object.ObjKind.{ObjKind}
use Rattle.graph_parts.specs.declared.object.ObjKind.TheVariants as kind
use Rattle.obj_graph.specs.declared.select.Select.{Select}
use Rattle.obj_graph.specs.Ids.{schema_id, type_id, relation_id, default_id, constraint_id, rule_id, data_id, pre_data, post_data}
use Rattle.obj_graph.specs.Chosen.{is_schema_chosen, is_in_chosen, schema_name, is_path_hit, is_relation_chosen, is_oid_chosen}

abbrev pub object : ObjId → ObjKind → Option Bytes → Option Bytes → Obj
object id kind schema name = record { id = id; kind = kind; schema = schema; name = name; attnum = pos 0 }

-- an object of this path
abbrev pub at_path : ObjId → ObjKind → Option QName → Obj
at_path id kind path = object id kind (option_map (λ q. q.schema) path) (option_map (λ q. q.name) path)

-- the same where a test holds
abbrev pub chosen_if : Bool → Obj → Option Obj
chosen_if chosen o = if chosen then Some o else None

-- ---- schemas, types and relations

abbrev pub schema_object : Select → NamespaceRow → Option Obj
schema_object select row = chosen_if (is_schema_chosen select row.nspname) (object (schema_id row.oid) kind.Schema None (Some row.nspname))

abbrev pub type_object : Catalogue → Select → TypeRow → Option Obj
type_object cat select row =
    let schema = schema_name cat row.typnamespace in
    chosen_if (is_in_chosen select schema) (object (type_id row.oid) kind.UserType schema (Some row.typname))

-- what a relation is as an object; an index isn't chosen by itself
abbrev pub object_kind : RelationKind → Option ObjKind
object_kind relation.Table = Some kind.Table
object_kind relation.View = Some kind.View
object_kind relation.Sequence = Some kind.Sequence
object_kind relation.Index = None
object_kind (relation.Other letter) = None

-- what a relation holds
abbrev pub data_kind : RelationKind → Option ObjKind
data_kind relation.Table = Some kind.TableData
data_kind relation.Sequence = Some kind.SeqValue
data_kind _ = None

abbrev pub relation_object : Catalogue → Select → ClassRow → Option Obj
relation_object cat select row =
    option_and_then (λ k. chosen_if (is_relation_chosen cat select row) (at_path (relation_id row.oid) k (class_path cat.pg_namespace row)))
    (object_kind (relation_kind row.relkind))

-- ---- what belongs to a chosen relation

-- whether the rows of a table are taken away; the value of a sequence never is
abbrev pub is_data_left_out : Catalogue → Select → ClassRow → ObjKind → Bool
is_data_left_out cat select row kind.TableData = is_path_hit select.not_table_data (class_path cat.pg_namespace row)
is_data_left_out cat select row _ = false

abbrev pub data_object : Catalogue → Select → ClassRow → Option Obj
data_object cat select row =
    option_and_then (λ k. chosen_if (is_relation_chosen cat select row && not (is_data_left_out cat select row k)) (at_path (data_id row.oid) k (class_path cat.pg_namespace row)))
    (data_kind (relation_kind row.relkind))

-- a constraint of its own; a check is part of its table or domain
abbrev pub constraint_kind : ConstraintRow → Option ObjKind
constraint_kind row =
    if is_key row then Some kind.Constraint
    else if is_foreign row then Some kind.Foreign
    else None

-- the name of the schema of a relation
abbrev pub schema_name_of : Catalogue → ℕ → Option Bytes
schema_name_of cat oid = option_and_then (λ r. schema_name cat r.relnamespace) (class_of cat.pg_class oid)

abbrev pub constraint_object : Catalogue → Select → ConstraintRow → Option Obj
constraint_object cat select row =
    option_and_then (λ k. chosen_if (is_oid_chosen cat select row.conrelid) (object (constraint_id row.oid) k (schema_name_of cat row.conrelid) (Some row.conname)))
    (constraint_kind row)

-- an index of no constraint
abbrev pub index_object : Catalogue → Select → IndexRow → Option Obj
index_object cat select row = chosen_if (is_oid_chosen cat select row.indrelid) (at_path (relation_id row.indexrelid) kind.Index (class_path_of cat row.indexrelid))

-- ---- the objects

-- the boundaries are always there
abbrev pub boundary : ObjId → ObjKind → List Obj
boundary id kind = object id kind None None ∷ []

-- what the data stand in, what they are, and what is made behind them
abbrev pub holders : Catalogue → Select → List Obj
holders cat select =
    filter_map (schema_object select) cat.pg_namespace
    ++ filter_map (type_object cat select) cat.pg_type
    ++ filter_map (relation_object cat select) cat.pg_class

abbrev pub contents : Catalogue → Select → List Obj
contents cat select = filter_map (data_object cat select) cat.pg_class

abbrev pub followers : Catalogue → Select → List Obj
followers cat select =
    filter_map (constraint_object cat select) cat.pg_constraint
    ++ filter_map (index_object cat select) cat.pg_index

abbrev pub unless : Bool → List Obj → List Obj
unless left_out objects = if left_out then [] else objects

-- the chosen objects: without rows and values, or these alone
unfoldable pub objects_of : Catalogue → Select → List Obj
objects_of cat select =
    unless select.data_only (holders cat select)
    ++ boundary pre_data kind.PreData
    ++ unless select.schema_only (contents cat select)
    ++ boundary post_data kind.PostData
    ++ unless select.data_only (followers cat select)

-- ---- objects that a cut makes

-- a default that stands alone, by the path of its table and the number of its column
abbrev pub default_object : Catalogue → AttrdefRow → Obj
default_object cat row = record (at_path (default_id row.oid) kind.Default (class_path_of cat row.adrelid)) { attnum = row.adnum }

-- the rule that holds the query of a dummy view
abbrev pub rule_object : Catalogue → RewriteRow → Obj
rule_object cat row = at_path (rule_id row.oid) kind.Rule (class_path_of cat row.ev_class)
