-- What is left of statements on constraints and indexes behind each of their conditions, and what they change.
use Rattle.std.specs.Prelude.{Bool, true, false, List, [], ◌∷◌, Option, Some, None}
use Rattle.cat_model.specs.declared.object.QName.{QName}
use Rattle.cat_model.specs.declared.cause.Cause.TheVariants as cause
use Rattle.cat_model.specs.declared.constraint.ConstraintKind.{ConstraintKind}
use Rattle.cat_model.specs.declared.constraint.ConstraintKind.TheVariants as kinds
use Rattle.cat_model.specs.declared.key.Key.{Key}
use Rattle.cat_model.specs.declared.key.Key.TheVariants as key
use Rattle.cat_model.specs.declared.value.Column.{Column}
use Rattle.cat_model.specs.declared.value.Index.{Index}
use Rattle.cat_model.specs.declared.value.Value.{Value}
use Rattle.cat_model.specs.declared.value.Value.TheVariants as value
use Rattle.cat_model.specs.Values.{Bytes, Row}
use Rattle.cat_model.specs.Conditions.{free, check, needs_each, columns_in}
use Rattle.cat_model.specs.KeyEffects.{index_path, rows_in, no_equal_rows, no_null_rows, refuse_orphan, no_primary, has_key, key_value, foreign_value, fits_foreign, unique_rows}
use Rattle.cat_model.specs.IndexColumns.{plain_columns}
use Rattle.cat_model.specs.References.{expression_references}
use Rattle.cat_model.specs.RelationEffects.{check_value}
use Rattle.cat_model.specs.Tables.{orphan}
use Rattle.cat_model.specs.Trees.{Tree, Change, sets, look}

-- ---- the keys of a class

abbrev pub first_key : List (Key × Value) → Option Key
first_key [] = None
first_key ((k, v) ∷ more) = Some k

abbrev pub has_none : List (Key × Value) → Bool
has_none [] = true
has_none (e ∷ more) = false

-- ---- primary keys and unique constraints

-- a key with its index
abbrev pub key_changes : ConstraintKind → QName → Bytes → List Bytes → Bytes → List Change
key_changes kind q name names rest =
    (key.Con q name, Some (key_value kind names rest)) ∷ (key.Rel (index_path q name), Some (value.IndexOf q)) ∷ []

-- no two rows have one key; then it is made
abbrev pub keyed : ConstraintKind → QName → Bytes → List Bytes → Bytes → List Column → List Row → Tree
keyed kind q name names rest columns rows =
    no_equal_rows name columns names rows
    (sets (key_changes kind q name names rest))

abbrev pub primary_on : QName → Bytes → List Bytes → Bytes → List Column → Tree
primary_on q name names rest columns =
    columns_in columns names
    (look (key.Rows q) (λ rows.
    no_null_rows columns names (rows_in rows)
    (keyed kinds.Primary q name names rest columns (rows_in rows))))

abbrev pub primary_named : QName → Bytes → List Bytes → Bytes → List Column → Tree
primary_named q name names rest columns =
    free (key.Con q name)
    (free (key.Rel (index_path q name))
    (no_primary q
    (primary_on q name names rest columns)))

abbrev pub unique_on : QName → Bytes → List Bytes → Bytes → List Column → Tree
unique_on q name names rest columns =
    columns_in columns names
    (look (key.Rows q) (λ rows.
    keyed kinds.Unique q name names rest columns (rows_in rows)))

abbrev pub unique_named : QName → Bytes → List Bytes → Bytes → List Column → Tree
unique_named q name names rest columns =
    free (key.Con q name)
    (free (key.Rel (index_path q name))
    (unique_on q name names rest columns))

-- ---- foreign keys

-- each row has a parent; then the key is made
abbrev pub foreign_rows : QName → Bytes → List Bytes → QName → List Bytes → Bytes → List Column → List Column → List Row → List Row → Tree
foreign_rows q name names parent parent_names rest columns parent_columns rows parent_rows =
    refuse_orphan name (orphan columns names rows parent_columns parent_names parent_rows)
    (sets ((key.Con q name, Some (foreign_value names parent parent_names rest)) ∷ []))

abbrev pub foreign_keyed : QName → Bytes → List Bytes → QName → List Bytes → Bytes → List Column → List Column → Tree
foreign_keyed q name names parent parent_names rest columns parent_columns =
    has_key parent parent_names
    (look (key.Rows q) (λ rows.
    look (key.Rows parent) (λ parent_rows.
    foreign_rows q name names parent parent_names rest columns parent_columns (rows_in rows) (rows_in parent_rows))))

abbrev pub foreign_between : QName → Bytes → List Bytes → QName → List Bytes → Bytes → List Column → List Column → Tree
foreign_between q name names parent parent_names rest columns parent_columns =
    free (key.Con q name)
    (check (fits_foreign columns names parent_columns parent_names) cause.WrongColumns
    (foreign_keyed q name names parent parent_names rest columns parent_columns))

-- ---- checks

abbrev pub check_named : QName → Bytes → Bytes → Tree
check_named q name text =
    free (key.Con q name)
    (needs_each (expression_references text)
    (sets ((key.Con q name, Some (check_value text)) ∷ [])))

-- ---- indexes

abbrev pub index_changes : QName → Bytes → Index → List Change
index_changes q name index =
    (key.Index q name, Some (value.Index index)) ∷ (key.Rel (index_path q name), Some (value.IndexOf q)) ∷ []

abbrev pub index_named : QName → Bytes → Index → Tree
index_named q name index =
    free (key.Rel (index_path q name))
    (free (key.Index q name)
    (sets (index_changes q name index)))

-- no two rows have one key on these columns; then the index is made
abbrev pub apart : QName → Bytes → Index → List Column → List Bytes → List Row → Tree
apart q name index columns names rows =
    no_equal_rows name columns names rows
    (sets (index_changes q name index))

abbrev pub apart_on : QName → Bytes → Index → List Column → List Bytes → Tree
apart_on q name index columns names =
    columns_in columns names
    (look (key.Rows q) (λ rows.
    apart q name index columns names (rows_in rows)))

abbrev pub unique_index_on : QName → Bytes → Index → List Column → Option (List Bytes) → Tree
unique_index_on q name index columns on = unique_rows q name columns on (sets (index_changes q name index))

abbrev pub unique_index_named : QName → Bytes → Bytes → Bytes → List Column → Tree
unique_index_named q name method rest columns =
    free (key.Rel (index_path q name))
    (free (key.Index q name)
    (unique_index_on q name (record { method = method; unique = true; text = rest }) columns (plain_columns rest)))
