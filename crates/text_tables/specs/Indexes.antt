-- The conditions of pg_index, whose rows are indexes other than those of primary keys and unique constraints.
use Rattle.std.specs.Prelude.{ℕ, Bool, true, false, not, ◌||◌, ◌&&◌, List, Option, Some, None, if◌then◌else◌}
use Rattle.std.specs.List.{list_all}
use Rattle.cat_rows.specs.declared.catalogue.Catalogue.{Catalogue}
use Rattle.cat_rows.specs.declared.relations.IndexRow.{IndexRow}
use Rattle.cat_model.specs.IndexColumns.{plain_columns}
use Rattle.cat_model.specs.KeyEffects.{index_path}
use Rattle.cat_model.specs.Tables.{distinct}
use Rattle.cat_model.specs.Values.{Bytes}
use Rattle.cat_names.specs.Kinds.{kind_of, is_table, is_index}
use Rattle.cat_names.specs.Lookups.{has_oid}
use Rattle.cat_book.specs.Leads.{has_column, key_indexes}
use Rattle.cat_book.specs.Paths.{class_path_of}
use Rattle.cat_book.specs.Rules.{Rules}
use Rattle.row_texts.specs.IndexTexts.{index_said}
use Rattle.row_texts.specs.declared.index_text.IndexText.{IndexText}
use Rattle.text_tables.specs.Agreeing.{is_path}

-- plain columns are there and distinct
abbrev pub are_columns : Catalogue → ℕ → Option (List Bytes) → Bool
are_columns cat table None = true
are_columns cat table (Some names) = list_all (has_column cat table) names && distinct names

-- a unique index over plain columns needs them
abbrev pub has_its_columns : Catalogue → ℕ → IndexText → Bool
has_its_columns cat table said = if said.unique then are_columns cat table (plain_columns said.rest) else true

-- the text says UNIQUE exactly where the row does
abbrev pub is_unique_said : Bool → Bool → Bool
is_unique_said row said = if row then said else not said

-- the table, the index and whether it is unique are those of the row, and its columns are there
abbrev pub agrees : Catalogue → IndexRow → IndexText → Bool
agrees cat row said =
    is_unique_said row.indisunique said.unique
    && (is_path (class_path_of cat row.indrelid) said.table
    && (is_path (class_path_of cat row.indexrelid) (index_path said.table said.name)
    && has_its_columns cat row.indrelid said))

abbrev pub agrees_if_said : Catalogue → IndexRow → Option IndexText → Bool
agrees_if_said cat row None = false
agrees_if_said cat row (Some said) = agrees cat row said

-- the index and its table are there
abbrev pub is_there : Catalogue → IndexRow → Bool
is_there cat row = is_index (kind_of cat.pg_class row.indexrelid) && is_table (kind_of cat.pg_class row.indrelid)

-- an index has one row, is there with its table, and isn't a key's own; the text is an index's and agrees with the rows
abbrev pub index_rules : Rules Catalogue IndexRow
index_rules = record {
  keys = λ row. record { oid = Some row.indexrelid; name = None; place = None; is_marked = false };
  unmet = λ cat row. record {
    dangles = not (is_there cat row);
    is_bad = has_oid (key_indexes cat) row.indexrelid || not (agrees_if_said cat row (index_said row.indexdef));
    left_out = None;
  };
  needed = λ cat. true;
}
