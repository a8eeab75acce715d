-- The conditions of pg_constraint.
use Rattle.std.specs.Prelude.{ℕ, pos, Bool, true, false, not, ◌||◌, ◌&&◌, ◌==◌, nat_le, List, length, Option, Some, None, if◌then◌else◌}
use Rattle.cat_rows.specs.declared.catalogue.Catalogue.{Catalogue}
use Rattle.cat_rows.specs.declared.constraints.ConstraintRow.{ConstraintRow}
use Rattle.cat_rows.specs.declared.types.TypeRow.{TypeRow}
use Rattle.cat_model.specs.declared.object.QName.{QName}
use Rattle.cat_model.specs.declared.words.What.{What}
use Rattle.cat_model.specs.declared.words.What.TheVariants as what
use Rattle.cat_model.specs.KeyEffects.{index_path}
use Rattle.cat_model.specs.Values.{Bytes}
use Rattle.cat_names.specs.Kinds.{kind_of, is_table, is_index}
use Rattle.cat_names.specs.Lookups.{count_of, is_no_oid}
use Rattle.cat_book.specs.Chains.{type_of, is_domain_letter}
use Rattle.cat_book.specs.Leads.{is_primary, is_key, key_indexes, primary_tables}
use Rattle.cat_book.specs.Paths.{class_path_of}
use Rattle.cat_book.specs.Rules.{Rules}
use Rattle.text_tables.specs.Agreeing.{is_path, are_met}
use Rattle.text_tables.specs.Indexes.{are_columns}
use Rattle.constraint_table.specs.declared.constraint_text.ConstraintText.{ConstraintText}
use Rattle.constraint_table.specs.declared.constraint_text.ConstraintText.TheVariants.{Primary, Unique, Foreign, Check}
use Rattle.constraint_table.specs.Keys.{has_key_on}
use Rattle.constraint_table.specs.Said.{constraint_said}

-- ---- kinds, by their letters

abbrev pub is_unique : ConstraintRow → Bool
is_unique row = row.contype == 117

abbrev pub is_foreign : ConstraintRow → Bool
is_foreign row = row.contype == 102

abbrev pub is_check : ConstraintRow → Bool
is_check row = row.contype == 99

-- any of the four
abbrev pub is_known : ConstraintRow → Bool
is_known row = is_key row || (is_foreign row || is_check row)

-- ---- what must be there

abbrev pub is_domain_row : Option TypeRow → Bool
is_domain_row None = false
is_domain_row (Some type) = is_domain_letter type.typtype

-- a table, or 0, which stands for none; and likewise a domain and an index
abbrev pub is_table_or_none : Catalogue → ℕ → Bool
is_table_or_none cat oid = is_no_oid oid || is_table (kind_of cat.pg_class oid)

abbrev pub is_domain_or_none : Catalogue → ℕ → Bool
is_domain_or_none cat oid = is_no_oid oid || is_domain_row (type_of cat.pg_type oid)

abbrev pub is_index_or_none : Catalogue → ℕ → Bool
is_index_or_none cat oid = is_no_oid oid || is_index (kind_of cat.pg_class oid)

-- a primary key and a unique constraint must have an index
abbrev pub is_index_there : Catalogue → ConstraintRow → Bool
is_index_there cat row = if is_key row then is_index (kind_of cat.pg_class row.conindid) else is_index_or_none cat row.conindid

-- a foreign key must have a parent
abbrev pub is_parent_there : Catalogue → ConstraintRow → Bool
is_parent_there cat row = if is_foreign row then is_table (kind_of cat.pg_class row.confrelid) else is_table_or_none cat row.confrelid

abbrev pub is_there : Catalogue → ConstraintRow → Bool
is_there cat row =
    is_table_or_none cat row.conrelid
    && (is_domain_or_none cat row.contypid
    && (is_index_there cat row
    && is_parent_there cat row))

-- ---- the text

-- whether the index of a key has the constraint's name and lies in the table's schema
abbrev pub has_index_path : Option QName → Option QName → Bytes → Bool
has_index_path None index name = false
has_index_path (Some table) index name = is_path index (index_path table name)

-- whether a key has its own index, which no other key has
abbrev pub has_own_index : Catalogue → ConstraintRow → Bool
has_own_index cat row =
    has_index_path (class_path_of cat row.conrelid) (class_path_of cat row.conindid) row.conname
    && nat_le (count_of (key_indexes cat) row.conindid) 1

-- whether a table has no second primary key
abbrev pub is_only_primary : Catalogue → ConstraintRow → Bool
is_only_primary cat row = nat_le (count_of (primary_tables cat) row.conrelid) 1

abbrev pub is_good_key : Catalogue → ConstraintRow → List Bytes → Bool
is_good_key cat row names = are_columns cat row.conrelid (Some names) && has_own_index cat row

-- the columns of both sides are there, each once and as many, and the parent has a key on its columns
abbrev pub is_good_foreign : Catalogue → ConstraintRow → List Bytes → QName → List Bytes → Bool
is_good_foreign cat row names parent parent_names =
    is_path (class_path_of cat row.confrelid) parent
    && (are_columns cat row.conrelid (Some names)
    && (are_columns cat row.confrelid (Some parent_names)
    && (length names == length parent_names
    && has_key_on cat row.confrelid parent_names)))

-- whether what a text says is of the row's kind and agrees with the rows
abbrev pub agrees : Catalogue → ConstraintRow → ConstraintText → Bool
agrees cat row (Primary names) = is_primary row && (is_good_key cat row names && is_only_primary cat row)
agrees cat row (Unique names) = is_unique row && is_good_key cat row names
agrees cat row (Foreign names parent parent_names) = is_foreign row && is_good_foreign cat row names parent parent_names
agrees cat row (Check text) = is_check row && are_met cat None text

abbrev pub agrees_if_said : Catalogue → ConstraintRow → Option ConstraintText → Bool
agrees_if_said cat row None = false
agrees_if_said cat row (Some said) = agrees cat row said

-- ---- the rows

-- a constraint is one of a table, or a check of a domain
abbrev pub is_placed : ConstraintRow → Bool
is_placed row = if is_no_oid row.contypid then not (is_no_oid row.conrelid) else is_no_oid row.conrelid && is_check row

-- a constraint that isn't placed, or a text that is bad; the text of a kind that is left out isn't tried
abbrev pub is_bad_constraint : Catalogue → ConstraintRow → Bool
is_bad_constraint cat row = not (is_placed row) || (is_known row && not (agrees_if_said cat row (constraint_said row.condef)))

abbrev pub constraint_left_out : ConstraintRow → Option What
constraint_left_out row = if is_known row then None else Some (what.ConstraintKind row.contype)

-- oids are distinct, names within a table or a domain; what a constraint names by oids is there, and its text agrees with
-- the rows
abbrev pub constraint_rules : Rules Catalogue ConstraintRow
constraint_rules = record {
  keys = λ row. record { oid = Some row.oid; name = Some (row.conrelid, row.contypid, pos 0, row.conname); place = None; is_marked = false };
  unmet = λ cat row. record { dangles = not (is_there cat row); is_bad = is_bad_constraint cat row; left_out = constraint_left_out row };
  needed = λ cat. true;
}
