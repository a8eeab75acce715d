-- What leads where in a catalogue, beside oids and paths: the keys, columns and labels of objects, and the rows that an
-- object has in a table of its own.
use Rattle.std.specs.Prelude.{ℕ, ℤ, Bool, true, false, ◌||◌, ◌==◌, List, map, Option, Some}
use Rattle.std.specs.List.{find, filter}
use Rattle.std.specs.declared.cmp.Ordering.{Ordering}
use Rattle.std.specs.Ordering.{nat_cmp, ordering_then}
use Rattle.cat_rows.specs.declared.catalogue.Catalogue.{Catalogue}
use Rattle.cat_rows.specs.declared.relations.AttributeRow.{AttributeRow}
use Rattle.cat_rows.specs.declared.constraints.ConstraintRow.{ConstraintRow}
use Rattle.cat_rows.specs.declared.types.TypeRow.{TypeRow}
use Rattle.cat_model.specs.Values.{Bytes, bytes_cmp}
use Rattle.cat_names.specs.declared.relations.RelationKind.{RelationKind}
use Rattle.cat_names.specs.declared.relations.RelationKind.TheVariants.{Table, View, Sequence, Index, Other}
use Rattle.cat_names.specs.Lookups.{same_oid, has_key, has_oid, count_of, is_no_oid}
use Rattle.cat_book.specs.Rules.{Place, place_cmp}

-- ---- types

abbrev pub type_oids : List TypeRow → List ℕ
type_oids types = map (λ t. t.oid) types

-- a base of 0 stands for none, of an enum too
abbrev pub is_base_there : List TypeRow → ℕ → Bool
is_base_there types oid = is_no_oid oid || has_oid (type_oids types) oid

-- how many labels a type has
abbrev pub label_types : Catalogue → List ℕ
label_types cat = map (λ e. e.enumtypid) cat.pg_enum

abbrev pub label_count : Catalogue → ℕ → ℕ
label_count cat type = count_of (label_types cat) type

-- ---- columns

-- tables and views have columns
abbrev pub has_columns : Option RelationKind → Bool
has_columns (Some Table) = true
has_columns (Some View) = true
has_columns _ = false

-- a column by its relation and number
abbrev pub numbered : AttributeRow → Place
numbered row = (row.attrelid, row.attnum)

abbrev pub column_numbers : Catalogue → List Place
column_numbers cat = map numbered cat.pg_attribute

-- whether a relation has a column of this number
abbrev pub has_number : Catalogue → ℕ → ℤ → Bool
has_number cat relation number = has_key place_cmp (column_numbers cat) (relation, number)

-- a column by its relation and name
abbrev pub column_cmp : ℕ × Bytes → ℕ × Bytes → Ordering
column_cmp a b = ordering_then (nat_cmp a.0 b.0) (bytes_cmp a.1 b.1)

abbrev pub named : AttributeRow → ℕ × Bytes
named row = (row.attrelid, row.attname)

abbrev pub column_names : Catalogue → List (ℕ × Bytes)
column_names cat = map named cat.pg_attribute

-- whether a relation has a column of this name
abbrev pub has_column : Catalogue → ℕ → Bytes → Bool
has_column cat relation name = has_key column_cmp (column_names cat) (relation, name)

abbrev pub column_relations : Catalogue → List ℕ
column_relations cat = map (λ a. a.attrelid) cat.pg_attribute

-- how many columns a relation has
abbrev pub column_count : Catalogue → ℕ → ℕ
column_count cat relation = count_of (column_relations cat) relation

-- ---- constraints

abbrev pub constraint_oids : Catalogue → List ℕ
constraint_oids cat = map (λ c. c.oid) cat.pg_constraint

-- the first constraint of an oid
abbrev pub constraint_of : Catalogue → ℕ → Option ConstraintRow
constraint_of cat oid = find (λ c. same_oid oid c.oid) cat.pg_constraint

abbrev pub is_primary : ConstraintRow → Bool
is_primary row = row.contype == 112

-- a primary key or a unique constraint, which has an index
abbrev pub is_key : ConstraintRow → Bool
is_key row = row.contype == 112 || row.contype == 117

-- the indexes of the keys
abbrev pub key_indexes : Catalogue → List ℕ
key_indexes cat = map (λ c. c.conindid) (filter is_key cat.pg_constraint)

-- the tables of the primary keys
abbrev pub primary_tables : Catalogue → List ℕ
primary_tables cat = map (λ c. c.conrelid) (filter is_primary cat.pg_constraint)

-- ---- rows of their own

abbrev pub view_oids : Catalogue → List ℕ
view_oids cat = map (λ r. r.ev_class) cat.pg_rewrite

abbrev pub sequence_oids : Catalogue → List ℕ
sequence_oids cat = map (λ s. s.seqrelid) cat.pg_sequence

abbrev pub index_oids : Catalogue → List ℕ
index_oids cat = map (λ i. i.indexrelid) cat.pg_index

-- each view has a row of pg_rewrite, each sequence one of pg_sequence, each index one of pg_index or a constraint
abbrev pub has_own_row : Catalogue → RelationKind → ℕ → Bool
has_own_row cat Table oid = true
has_own_row cat View oid = has_oid (view_oids cat) oid
has_own_row cat Sequence oid = has_oid (sequence_oids cat) oid
has_own_row cat Index oid = has_oid (index_oids cat) oid || has_oid (key_indexes cat) oid
has_own_row cat (Other letter) oid = true
