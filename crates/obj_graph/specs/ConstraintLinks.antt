-- What constraints and indexes depend on: their table; a foreign key also the table that it names, and each key of that table
-- on the same columns; and what the checks of tables and domains refer to.
use Rattle.std.specs.Prelude.{ℕ, ◌&&◌, List, [], ◌∷◌, ◌++◌, map, filter_map, Option, Some, None, if◌then◌else◌}
use Rattle.std.specs.Option.{option_map, option_and_then}
use Rattle.cat_rows.specs.declared.catalogue.Catalogue.{Catalogue}
use Rattle.cat_rows.specs.declared.constraints.ConstraintRow.{ConstraintRow}
use Rattle.cat_rows.specs.declared.relations.IndexRow.{IndexRow}
use Rattle.cat_model.specs.References.{expression_references}
use Rattle.cat_model.specs.Tables.{same_set}
use Rattle.cat_model.specs.Values.{Bytes}
use Rattle.cat_names.specs.Lookups.{same_oid}
use Rattle.cat_names.specs.Lookups.{is_no_oid}
use Rattle.row_texts.specs.IndexTexts.{index_said}
use Rattle.constraint_table.specs.declared.constraint_text.ConstraintText.{ConstraintText}
use Rattle.constraint_table.specs.declared.constraint_text.ConstraintText.TheVariants.{Foreign}
use Rattle.constraint_table.specs.Keys.{columns_of_key, unique_columns}
use Rattle.constraint_table.specs.Said.{constraint_said}
use Rattle.constraint_table.specs.Table.{is_foreign, is_check}
use Rattle.graph_parts.specs.declared.object.ObjId.{ObjId}
use Rattle.obj_graph.specs.Ids.{type_id, relation_id, constraint_id}
use Rattle.obj_graph.specs.declared.key_of.KeyOf.{KeyOf}
use Rattle.obj_graph.specs.declared.link.Link.{Link}
use Rattle.obj_graph.specs.Links.{link, reference_links}

-- a check is part of its table, or of its domain
abbrev pub check_owner : ConstraintRow → ObjId
check_owner row = if is_no_oid row.contypid then relation_id row.conrelid else type_id row.contypid

-- what a check refers to; the word CHECK and the brackets refer to nothing
abbrev pub check_links : Catalogue → ConstraintRow → List Link
check_links cat row = reference_links cat (link (check_owner row)) (expression_references row.condef)

-- ---- keys

-- a primary key or a unique constraint, and a unique index over plain columns, as keys of their tables
abbrev pub key_constraint : ConstraintRow → Option KeyOf
key_constraint row = option_map (λ names. record { table = row.conrelid; columns = names; id = constraint_id row.oid }) (columns_of_key row)

abbrev pub key_index : IndexRow → Option KeyOf
key_index row =
    option_map (λ names. record { table = row.indrelid; columns = names; id = relation_id row.indexrelid })
    (option_and_then unique_columns (index_said row.indexdef))

-- the keys of all tables
unfoldable pub keys_of : Catalogue → List KeyOf
keys_of cat = filter_map key_constraint cat.pg_constraint ++ filter_map key_index cat.pg_index

-- a key, where it is one of this table on this set of columns
abbrev pub key_on : ℕ → List Bytes → KeyOf → Option ObjId
key_on table names k = if same_oid table k.table && same_set names k.columns then Some k.id else None

abbrev pub keys_on : Catalogue → ℕ → List Bytes → List ObjId
keys_on cat table names = filter_map (key_on table names) (keys_of cat)

-- ---- constraints

-- the columns that a foreign key names of its parent
abbrev pub parent_columns : Option ConstraintText → List Bytes
parent_columns (Some (Foreign columns parent names)) = names
parent_columns _ = []

abbrev pub foreign_links : Catalogue → ConstraintRow → List Link
foreign_links cat row =
    link (constraint_id row.oid) (relation_id row.confrelid)
    ∷ map (link (constraint_id row.oid)) (keys_on cat row.confrelid (parent_columns (constraint_said row.condef)))

unfoldable pub constraint_links : Catalogue → ConstraintRow → List Link
constraint_links cat row =
    if is_check row then check_links cat row
    else link (constraint_id row.oid) (relation_id row.conrelid) ∷ (if is_foreign row then foreign_links cat row else [])

-- an index of no constraint
unfoldable pub index_links : IndexRow → List Link
index_links row = link (relation_id row.indexrelid) (relation_id row.indrelid) ∷ []
