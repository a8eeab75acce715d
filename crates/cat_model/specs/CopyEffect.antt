-- The effect of COPY: the rows of its text one by one, then the keys of the table over all rows, then the parents.
use Rattle.std.specs.Prelude.{ℕ, Bool, true, false, List, [], ◌∷◌, ◌++◌, Option, Some, None, Result, Ok, Err, if◌then◌else◌}
use Rattle.std.specs.Ordering.{is_gt}
use Rattle.std.specs.List.{filter_map}
use Rattle.cat_model.specs.declared.object.QName.{QName}
use Rattle.cat_model.specs.declared.key.Key.{Key}
use Rattle.cat_model.specs.declared.key.Key.TheVariants as key
use Rattle.cat_model.specs.declared.class.Class.TheVariants as class
use Rattle.cat_model.specs.declared.cause.Cause.{Cause}
use Rattle.cat_model.specs.declared.cause.Cause.TheVariants as cause
use Rattle.cat_model.specs.Values as value
use Rattle.cat_model.specs.Values.{Bytes, bytes_cmp, Value, Column, Row, Constraint}
use Rattle.cat_model.specs.Tables.{orphan}
use Rattle.cat_model.specs.CopiedRows.{all_columns, copied_rows}
use Rattle.cat_model.specs.Trees.{Tree, refuse, sets, look, scan, same_path, is_primary, is_unique, unique_on}
use Rattle.cat_model.specs.Conditions.{needs_table, check}
use Rattle.cat_model.specs.KeyEffects.{rows_in, columns_of, no_equal_rows, refuse_orphan}

-- ---- the keys of a table

-- a key's name and columns
abbrev pub Unique : Type 0
Unique = Bytes × List Bytes

abbrev pub primary_columns : List (Key × Value) → List Bytes
primary_columns [] = []
primary_columns ((k, value.constraint c) ∷ more) = if is_primary c.kind then c.columns else primary_columns more
primary_columns (_ ∷ more) = primary_columns more

abbrev pub named_if_some : Bytes → Option (List Bytes) → Option Unique
named_if_some name (Some names) = Some (name, names)
named_if_some name None = None

-- a primary key, a unique constraint or a unique index on plain columns
abbrev pub unique_in : Key × Value → Option Unique
unique_in (key.Con q name, value.constraint c) = if is_unique c.kind then Some (name, c.columns) else None
unique_in (key.Index q name, value.index i) = named_if_some name (unique_on i)
unique_in _ = None

abbrev pub placed : Unique → List Unique → List Unique
placed u [] = u ∷ []
placed u (v ∷ vs) = if is_gt (bytes_cmp u.0 v.0) then v ∷ placed u vs else u ∷ v ∷ vs

abbrev pub by_name : List Unique → List Unique
by_name [] = []
by_name (u ∷ us) = placed u (by_name us)

-- a foreign key: its name and columns, the parent and the parent's columns
pub record Foreign : Type 0 where
  pub name : Bytes
  pub columns : List Bytes
  pub parent : QName
  pub parent_columns : List Bytes

abbrev pub foreign_of : Bytes → Constraint → Option (QName × List Bytes) → Option Foreign
foreign_of name c None = None
foreign_of name c (Some (parent, names)) = Some (record { name = name; columns = c.columns; parent = parent; parent_columns = names })

-- only foreign keys have a parent
abbrev pub foreign_in : Key × Value → Option Foreign
foreign_in (key.Con q name, value.constraint c) = foreign_of name c c.parent
foreign_in _ = None

-- ---- the conditions on all rows together

-- no two rows have one key, for each of these keys
abbrev pub all_unique : List Unique → List Column → List Row → Tree → Tree
all_unique [] columns rows next = next
all_unique (u ∷ us) columns rows next = no_equal_rows u.0 columns u.1 rows (all_unique us columns rows next)

-- each new row has a parent, for each of these foreign keys; the table's own rows are those after the COPY
abbrev pub all_have_parents : QName → List Foreign → List Column → List Row → List Row → Tree → Tree
all_have_parents q [] columns new all next = next
all_have_parents q (f ∷ fs) columns new all next =
    look (key.Rel f.parent) (λ parent.
    look (key.Rows f.parent) (λ parent_rows.
    refuse_orphan f.name (orphan columns f.columns new (columns_of parent) f.parent_columns (if same_path q f.parent then all else rows_in parent_rows))
    (all_have_parents q fs columns new all next)))

-- the new rows stand behind the table's
abbrev pub rows_added : QName → List Column → List Unique → List Foreign → List Row → Result (List Row) Cause → Tree
rows_added q columns uniques foreigns old (Err because) = refuse because
rows_added q columns uniques foreigns old (Ok new) =
    all_unique uniques columns (old ++ new)
    (all_have_parents q foreigns columns new (old ++ new)
    (sets ((key.Rows q, Some (value.rows (old ++ new))) ∷ [])))

abbrev pub copy_rows : QName → List Bytes → Bytes → Tree
copy_rows q names text =
    needs_table q (λ columns.
    check (all_columns columns names) cause.WrongColumns
    (scan (class.Constraints q) (λ constraints.
    scan (class.Indexes q) (λ indexes.
    look (key.Rows q) (λ rows.
    rows_added q columns (by_name (filter_map unique_in (constraints ++ indexes))) (filter_map foreign_in constraints) (rows_in rows)
    (copied_rows columns names (primary_columns constraints) text))))))
