-- Which rows are found: a column's name, the table of an index, a constraint.
use Rattle.std.specs.Prelude.{ℕ, ℤ, ◌&&◌, Option}
use Rattle.std.specs.List.{find}
use Rattle.std.specs.Option.{option_map, option_or}
use Rattle.std.specs.Ordering.{int_eq}
use Rattle.cat_rows.specs.declared.catalogue.Catalogue.{Catalogue}
use Rattle.cat_rows.specs.declared.constraints.ConstraintRow.{ConstraintRow}
use Rattle.cat_model.specs.Values.{Bytes}
use Rattle.cat_names.specs.Lookups.{same_oid}
use Rattle.cat_book.specs.Leads.{is_key}

-- the name of a relation's column
abbrev pub column_name : Catalogue → ℕ → ℤ → Option Bytes
column_name cat oid number = option_map (λ a. a.attname) (find (λ a. same_oid oid a.attrelid && int_eq number a.attnum) cat.pg_attribute)

-- the table of the key that has an index
abbrev pub table_of_key : Catalogue → ℕ → Option ℕ
table_of_key cat oid = option_map (λ c. c.conrelid) (find (λ c. is_key c && same_oid oid c.conindid) cat.pg_constraint)

-- the table of an index: that of its row, or of the key that it belongs to
abbrev pub table_of_index : Catalogue → ℕ → Option ℕ
table_of_index cat oid = option_or (option_map (λ i. i.indrelid) (find (λ i. same_oid oid i.indexrelid) cat.pg_index)) (table_of_key cat oid)

-- the first constraint of an oid
abbrev pub constraint_of : Catalogue → ℕ → Option ConstraintRow
constraint_of cat oid = find (λ c. same_oid oid c.oid) cat.pg_constraint
