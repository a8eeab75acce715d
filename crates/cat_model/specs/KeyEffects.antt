-- The effects of statements about the constraints and indexes of tables.
use Rattle.std.specs.Prelude.{ℕ, Bool, true, false, ◌&&◌, ◌==◌, List, [], ◌∷◌, length, Option, Some, None, if◌then◌else◌}
use Rattle.cat_model.specs.declared.object.QName.{QName}
use Rattle.cat_model.specs.declared.key.Key.{Key}
use Rattle.cat_model.specs.declared.key.Key.TheVariants as key
use Rattle.cat_model.specs.declared.class.Class.TheVariants as class
use Rattle.cat_model.specs.declared.cause.Cause.{Cause}
use Rattle.cat_model.specs.declared.cause.Cause.TheVariants as cause
use Rattle.cat_model.specs.declared.constraint.ConstraintKind.{ConstraintKind}
use Rattle.cat_model.specs.declared.constraint.ConstraintKind.TheVariants as kinds
use Rattle.cat_model.specs.Values as value
use Rattle.cat_model.specs.Values.{Bytes, Value, Column, Row, Constraint, Index}
use Rattle.cat_model.specs.Tables.{columns_there, repeated, orphan, null_in}
use Rattle.cat_model.specs.References.{expression_references}
use Rattle.cat_model.specs.Trees.{Tree, refuse, sets, look, scan, unique_on}
use Rattle.cat_model.specs.Conditions.{needs_each, needs_table, free, check, columns_in}
use Rattle.cat_model.specs.RelationEffects.{check_value}

-- an index, a constraint's too, stands among the relations of its table's schema
abbrev pub index_path : QName → Bytes → QName
index_path table name = record { schema = table.schema; name = name }

abbrev pub rows_in : Option Value → List Row
rows_in (Some (value.rows rows)) = rows
rows_in _ = []

abbrev pub columns_of : Option Value → List Column
columns_of (Some (value.table columns)) = columns
columns_of _ = []

-- ---- conditions on rows

abbrev pub refuse_repeated : Bytes → Option (ℕ × ℕ) → Tree → Tree
refuse_repeated name None next = next
refuse_repeated name (Some (first, second)) next = refuse (cause.Duplicate name first second)

-- no two rows have one key, else Duplicate
abbrev pub no_equal_rows : Bytes → List Column → List Bytes → List Row → Tree → Tree
no_equal_rows name columns names rows next = refuse_repeated name (repeated columns names rows) next

abbrev pub refuse_null : Option (ℕ × ℕ) → Tree → Tree
refuse_null None next = next
refuse_null (Some (column, row)) next = refuse (cause.NullValue column row)

-- no row has a null in these columns, else NullValue
abbrev pub no_null_rows : List Column → List Bytes → List Row → Tree → Tree
no_null_rows columns names rows next = refuse_null (null_in 1 columns names rows) next

abbrev pub refuse_orphan : Bytes → Option ℕ → Tree → Tree
refuse_orphan name None next = next
refuse_orphan name (Some row) next = refuse (cause.NoParent name row)

abbrev pub if_no_primary : Tree → List (Key × Value) → Tree
if_no_primary next [] = next
if_no_primary next ((k, v) ∷ more) = refuse (cause.Exists k)

-- the table has no primary key, else Exists of it
abbrev pub no_primary : QName → Tree → Tree
no_primary q next = scan (class.PrimaryKeys q) (if_no_primary next)

abbrev pub if_key : QName → Tree → List (Key × Value) → Tree
if_key parent next [] = refuse (cause.KeyMissing (key.Rel parent))
if_key parent next (e ∷ more) = next

-- the parent has a key on this set of columns, else KeyMissing
abbrev pub has_key : QName → List Bytes → Tree → Tree
has_key parent names next = scan (class.KeysOn parent names) (if_key parent next)

-- ---- statements

abbrev pub key_value : ConstraintKind → List Bytes → Bytes → Value
key_value kind names rest = value.constraint (record { kind = kind; columns = names; parent = None; text = rest })

abbrev pub add_primary : QName → Bytes → List Bytes → Bytes → Tree
add_primary q name names rest =
    needs_table q (λ columns.
    free (key.Con q name)
    (free (key.Rel (index_path q name))
    (no_primary q
    (columns_in columns names
    (look (key.Rows q) (λ rows.
    no_null_rows columns names (rows_in rows)
    (no_equal_rows name columns names (rows_in rows)
    (sets ((key.Con q name, Some (key_value kinds.Primary names rest)) ∷ (key.Rel (index_path q name), Some (value.index_of q)) ∷ [])))))))))

abbrev pub add_unique : QName → Bytes → List Bytes → Bytes → Tree
add_unique q name names rest =
    needs_table q (λ columns.
    free (key.Con q name)
    (free (key.Rel (index_path q name))
    (columns_in columns names
    (look (key.Rows q) (λ rows.
    no_equal_rows name columns names (rows_in rows)
    (sets ((key.Con q name, Some (key_value kinds.Unique names rest)) ∷ (key.Rel (index_path q name), Some (value.index_of q)) ∷ [])))))))

abbrev pub foreign_value : List Bytes → QName → List Bytes → Bytes → Value
foreign_value names parent parent_names rest =
    value.constraint (record { kind = kinds.Foreign; columns = names; parent = Some (parent, parent_names); text = rest })

-- as many columns on both sides, each there, none twice
abbrev pub fits_foreign : List Column → List Bytes → List Column → List Bytes → Bool
fits_foreign columns names parent_columns parent_names =
    columns_there columns names && (columns_there parent_columns parent_names && length names == length parent_names)

abbrev pub add_foreign : QName → Bytes → List Bytes → QName → List Bytes → Bytes → Tree
add_foreign q name names parent parent_names rest =
    needs_table q (λ columns.
    needs_table parent (λ parent_columns.
    free (key.Con q name)
    (check (fits_foreign columns names parent_columns parent_names) cause.WrongColumns
    (has_key parent parent_names
    (look (key.Rows q) (λ rows.
    look (key.Rows parent) (λ parent_rows.
    refuse_orphan name (orphan columns names (rows_in rows) parent_columns parent_names (rows_in parent_rows))
    (sets ((key.Con q name, Some (foreign_value names parent parent_names rest)) ∷ [])))))))))

abbrev pub add_check : QName → Bytes → Bytes → Tree
add_check q name text =
    needs_table q (λ columns.
    free (key.Con q name)
    (needs_each (expression_references text)
    (sets ((key.Con q name, Some (check_value text)) ∷ []))))

abbrev pub index_made : QName → Bytes → Index → Tree
index_made q name index =
    sets ((key.Index q name, Some (value.index index)) ∷ (key.Rel (index_path q name), Some (value.index_of q)) ∷ [])

-- Where a relation of the name is free no well-formed catalogue has an index of it.
abbrev pub create_index : QName → Bytes → Bytes → Bytes → Tree
create_index q name method rest =
    needs_table q (λ columns.
    free (key.Rel (index_path q name))
    (free (key.Index q name)
    (index_made q name (record { method = method; unique = false; text = rest }))))

abbrev pub unique_rows : QName → Bytes → List Column → Option (List Bytes) → Tree → Tree
unique_rows q name columns None next = next
unique_rows q name columns (Some names) next =
    columns_in columns names
    (look (key.Rows q) (λ rows.
    no_equal_rows name columns names (rows_in rows) next))

-- on plain columns no two rows may be equal; other unique indexes aren't tried
abbrev pub create_unique_index : QName → Bytes → Bytes → Bytes → Tree
create_unique_index q name method rest =
    let index : Index = record { method = method; unique = true; text = rest } in
    needs_table q (λ columns.
    free (key.Rel (index_path q name))
    (free (key.Index q name)
    (unique_rows q name columns (unique_on index)
    (index_made q name index))))
