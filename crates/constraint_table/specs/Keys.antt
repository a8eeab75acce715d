-- The keys of tables, to which foreign keys may refer: primary keys, unique constraints, and unique indexes over plain
-- columns.
use Rattle.std.specs.Prelude.{ℕ, Bool, ◌&&◌, List, ◌++◌, Option, Some, None, option_map, filter_map, if◌then◌else◌}
use Rattle.std.specs.List.{list_any}
use Rattle.std.specs.Option.{option_and_then}
use Rattle.cat_rows.specs.declared.catalogue.Catalogue.{Catalogue}
use Rattle.cat_rows.specs.declared.constraints.ConstraintRow.{ConstraintRow}
use Rattle.cat_rows.specs.declared.relations.IndexRow.{IndexRow}
use Rattle.cat_model.specs.IndexColumns.{plain_columns}
use Rattle.cat_model.specs.Tables.{same_set}
use Rattle.cat_model.specs.Values.{Bytes}
use Rattle.cat_names.specs.Lookups.{same_oid}
use Rattle.cat_book.specs.Leads.{is_key}
use Rattle.row_texts.specs.IndexTexts.{index_said}
use Rattle.row_texts.specs.declared.index_text.IndexText.{IndexText}
use Rattle.constraint_table.specs.declared.constraint_text.ConstraintText.{ConstraintText}
use Rattle.constraint_table.specs.declared.constraint_text.ConstraintText.TheVariants.{Primary, Unique}
use Rattle.constraint_table.specs.Said.{constraint_said}

-- the columns of a primary key or a unique constraint
abbrev pub key_columns : ConstraintText → Option (List Bytes)
key_columns (Primary names) = Some names
key_columns (Unique names) = Some names
key_columns _ = None

-- the columns of a unique index, where they are plain
abbrev pub unique_columns : IndexText → Option (List Bytes)
unique_columns said = if said.unique then plain_columns said.rest else None

abbrev pub on_table : ℕ → Option (List Bytes) → Option (ℕ × List Bytes)
on_table table names = option_map (λ ns. (table, ns)) names

-- the columns that a constraint is a key on, by its letter and its text
abbrev pub columns_of_key : ConstraintRow → Option (List Bytes)
columns_of_key row = if is_key row then option_and_then key_columns (constraint_said row.condef) else None

abbrev pub key_of_constraint : ConstraintRow → Option (ℕ × List Bytes)
key_of_constraint row = on_table row.conrelid (columns_of_key row)

abbrev pub key_of_index : IndexRow → Option (ℕ × List Bytes)
key_of_index row = on_table row.indrelid (option_and_then unique_columns (index_said row.indexdef))

-- the keys, each by its table and its columns
abbrev pub keys_of : Catalogue → List (ℕ × List Bytes)
keys_of cat = filter_map key_of_constraint cat.pg_constraint ++ filter_map key_of_index cat.pg_index

-- whether a table has a key on this set of columns
abbrev pub has_key_on : Catalogue → ℕ → List Bytes → Bool
has_key_on cat table names = list_any (λ k. same_oid table k.0 && same_set names k.1) (keys_of cat)
