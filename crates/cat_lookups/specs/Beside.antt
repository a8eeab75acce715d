-- What stands beside a catalogue so that its rows are found without going through its tables.
use Rattle.std.specs.Prelude.{◌≡◌, ℕ, ℤ, pos, List, map}
use Rattle.std.specs.Borrow.{Bor}
use Rattle.std.specs.List.{filter}
use Rattle.cat_rows.specs.declared.catalogue.Catalogue.{Catalogue}
use Rattle.cat_rows.specs.declared.constraints.ConstraintRow.{ConstraintRow}
use Rattle.cat_book.specs.Leads.{is_key}

-- a column by its relation and number; a constraint by its domain
abbrev pub column_keys : Catalogue → List (ℕ × ℤ)
column_keys cat = map (λ a. (a.attrelid, a.attnum)) cat.pg_attribute

abbrev pub check_keys : Catalogue → List (ℕ × ℤ)
check_keys cat = map (λ c. (c.contypid, pos 0)) cat.pg_constraint

-- the oids of the indexes that aren't those of keys, and of the constraints
abbrev pub index_oids : Catalogue → List ℕ
index_oids cat = map (λ i. i.indexrelid) cat.pg_index

abbrev pub constraint_oids : Catalogue → List ℕ
constraint_oids cat = map (λ c. c.oid) cat.pg_constraint

-- what rows are found by: the columns, the checks of domains, the indexes, the primary keys and unique constraints with
-- the oids of their indexes, and the constraints
pub record IsBeside (cat book ends : Catalogue) (columns checks : List (ℕ × ℤ)) (indexes : List ℕ) (keys : List (Bor ConstraintRow)) (key_indexes constraints : List ℕ) : Type 0 where
  pub of_book : book ≡ cat
  pub of_ends : ends ≡ cat
  pub of_columns : columns ≡ column_keys cat
  pub of_checks : checks ≡ check_keys cat
  pub of_indexes : indexes ≡ index_oids cat
  pub of_keys : map (λ k. k.now) keys ≡ filter is_key cat.pg_constraint
  pub of_key_indexes : key_indexes ≡ map (λ k. k.now.conindid) keys
  pub of_constraints : constraints ≡ constraint_oids cat
