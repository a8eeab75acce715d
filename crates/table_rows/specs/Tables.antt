-- The tables of a catalogue, and how many columns each has.
use Rattle.std.specs.Prelude.{ℕ, pos, Bool, List, map, Some}
use Rattle.std.specs.List.{filter}
use Rattle.cat_rows.specs.declared.catalogue.Catalogue.{Catalogue}
use Rattle.cat_rows.specs.declared.relations.AttributeRow.{AttributeRow}
use Rattle.cat_rows.specs.declared.relations.ClassRow.{ClassRow}
use Rattle.cat_names.specs.Kinds.{relation_kind, is_table}
use Rattle.cat_names.specs.Lookups.{count_of}
use Rattle.oid_groups.specs.Orders.{by_number}

-- whether a relation is a table
unfoldable pub is_table_row : ClassRow → Bool
is_table_row row = is_table (Some (relation_kind row.relkind))

-- the oids of the tables, as they stand
abbrev pub unsorted_oids : List ClassRow → List ℕ
unsorted_oids classes = map (λ row. row.oid) (filter is_table_row classes)

-- the oids of the tables, by rising oid
unfoldable pub table_oids : Catalogue → List ℕ
table_oids cat = by_number (λ oid. pos oid) (unsorted_oids cat.pg_class)

-- the relation of each column
abbrev pub column_oids : List AttributeRow → List ℕ
column_oids columns = map (λ row. row.attrelid) columns

-- how many columns a relation has
abbrev pub column_count : Catalogue → ℕ → ℕ
column_count cat oid = count_of (column_oids cat.pg_attribute) oid
