-- What tables, views and sequences depend on, row by row of the tables that tell of them.
-- A table depends on its schema, the types of its columns, and what its checks and its columns' defaults refer to; a view on
-- its schema, the types of its columns, and what its query refers to; a sequence on its schema and the table whose column owns
-- it; rows and values on their relation.
use Rattle.std.specs.Prelude.{ℕ, Bool, false, ◌==◌, ◌&&◌, ◌||◌, List, [], ◌∷◌, map, Option, Some, None}
use Rattle.std.specs.declared.cmp.Ordering.{Ordering}
use Rattle.std.specs.Ordering.{nat_cmp, ordering_then}
use Rattle.cat_rows.specs.declared.catalogue.Catalogue.{Catalogue}
use Rattle.cat_rows.specs.declared.relations.ClassRow.{ClassRow}
use Rattle.cat_rows.specs.declared.relations.AttributeRow.{AttributeRow}
use Rattle.cat_rows.specs.declared.relations.AttrdefRow.{AttrdefRow}
use Rattle.cat_rows.specs.declared.relations.RewriteRow.{RewriteRow}
use Rattle.cat_rows.specs.declared.sequences.SequenceRow.{SequenceRow}
use Rattle.cat_model.specs.References.{expression_references, view_references}
use Rattle.cat_model.specs.Values.{Bytes}
use Rattle.cat_names.specs.declared.relations.RelationKind.{RelationKind}
use Rattle.cat_names.specs.declared.relations.RelationKind.TheVariants as relation
use Rattle.cat_names.specs.Kinds.{relation_kind, class_of}
use Rattle.cat_names.specs.Lookups.{has_key}
use Rattle.row_texts.specs.ViewTexts.{view_body}
use Rattle.graph_parts.specs.declared.object.ObjId.{ObjId}
use Rattle.obj_graph.specs.Ids.{schema_id, type_id, relation_id, data_id}
use Rattle.obj_graph.specs.declared.link.Link.{Link}
use Rattle.obj_graph.specs.Links.{link, moving, reference_links}
use Rattle.obj_graph.specs.Objects.{default_object, rule_object}

-- a relation and what it holds; an index stands with its table alone
abbrev pub links_of_kind : RelationKind → ClassRow → List Link
links_of_kind relation.Index row = []
links_of_kind _ row = link (relation_id row.oid) (schema_id row.relnamespace) ∷ link (data_id row.oid) (relation_id row.oid) ∷ []

unfoldable pub class_links : ClassRow → List Link
class_links row = links_of_kind (relation_kind row.relkind) row

-- the type of a column; a type of 0 is none
unfoldable pub column_links : AttributeRow → List Link
column_links row = link (relation_id row.attrelid) (type_id row.atttypid) ∷ []

-- what a default refers to, which moves with it
unfoldable pub default_links : Catalogue → AttrdefRow → List Link
default_links cat row = reference_links cat (moving (relation_id row.adrelid) (default_object cat row)) (expression_references row.adexpr)

-- the table whose column owns a sequence; 0 is none
unfoldable pub sequence_links : SequenceRow → List Link
sequence_links row = link (relation_id row.seqrelid) (relation_id row.ownrel) ∷ []

-- ---- views

abbrev pub is_schema_of : Option ClassRow → ObjId → Bool
is_schema_of None to = false
is_schema_of (Some row) to = to.class == 2615 && to.oid == row.relnamespace

-- the types of the columns, by their relations
abbrev pub pair_cmp : ℕ × ℕ → ℕ × ℕ → Ordering
pair_cmp a b = ordering_then (nat_cmp a.0 b.0) (nat_cmp a.1 b.1)

abbrev pub column_types : Catalogue → List (ℕ × ℕ)
column_types cat = map (λ a. (a.attrelid, a.atttypid)) cat.pg_attribute

-- whether an object is the type of a column of a relation
abbrev pub has_column_type : Catalogue → ℕ → ObjId → Bool
has_column_type cat relation to = to.class == 1247 && has_key pair_cmp (column_types cat) (relation, to.oid)

-- a dummy view too needs its schema and the types of its columns
abbrev pub is_kept : Catalogue → ℕ → ObjId → Bool
is_kept cat view to = is_schema_of (class_of cat.pg_class view) to || has_column_type cat view to

abbrev pub body_link : Catalogue → RewriteRow → ObjId → Link
body_link cat row to = record (moving (relation_id row.ev_class) (rule_object cat row) to) { stays = is_kept cat row.ev_class to }

abbrev pub body_links : Catalogue → RewriteRow → Option Bytes → List Link
body_links cat row None = []
body_links cat row (Some body) = reference_links cat (body_link cat row) (view_references body)

-- what the query of a view refers to, which moves to its rule
unfoldable pub view_links : Catalogue → RewriteRow → List Link
view_links cat row = body_links cat row (view_body row.viewdef)
