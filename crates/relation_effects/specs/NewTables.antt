-- What is left of CREATE TABLE behind each of its conditions.
use Rattle.std.specs.Prelude.{List, [], ◌∷◌, ◌++◌, map, Some}
use Rattle.std.specs.List.{flat_map}
use Rattle.cat_model.specs.declared.cause.Cause.TheVariants as cause
use Rattle.cat_model.specs.declared.object.QName.{QName}
use Rattle.cat_model.specs.declared.object.Object.TheVariants as object
use Rattle.cat_model.specs.declared.table.CheckDef.{CheckDef}
use Rattle.cat_model.specs.declared.table.ColumnDef.{ColumnDef}
use Rattle.cat_model.specs.declared.key.Key.TheVariants as key
use Rattle.cat_model.specs.declared.value.Column.{Column}
use Rattle.cat_model.specs.declared.value.Resolved.{Resolved}
use Rattle.cat_model.specs.declared.value.Value.TheVariants as value
use Rattle.cat_model.specs.Values.{Bytes}
use Rattle.cat_model.specs.Conditions.{check, free, needs_each}
use Rattle.cat_model.specs.Grants.{owner_only, table_rights}
use Rattle.cat_model.specs.ObjectEffects.{made}
use Rattle.cat_model.specs.RelationEffects.{needs_columns, default_set, check_value, fits_table}
use Rattle.cat_model.specs.Trees.{Tree, Change, sets}
use Rattle.cat_model.specs.TypeEffects.{needs_type, but, default_references, check_references}

-- ---- one column

abbrev pub column_with : ColumnDef → Resolved → Column
column_with c resolved = record { name = c.name; type_name = c.type_name; resolved = resolved; not_null = c.not_null }

-- what its default refers to, and the rest with the column
abbrev pub default_then : QName → ColumnDef → (Column → Tree) → Resolved → Tree
default_then q c next resolved =
    needs_each (but (key.Rel q) (default_references c.default))
    (next (column_with c resolved))

-- its type, then what its default refers to, and the rest with the column
abbrev pub column_then : QName → ColumnDef → (Column → Tree) → Tree
column_then q c next = needs_type c.type_name (default_then q c next)

-- ---- the table

abbrev pub table_changes : Bytes → QName → List ColumnDef → List CheckDef → List Column → List Change
table_changes boot q columns checks resolved =
    (key.Rel q, Some (value.Table resolved)) ∷ (key.Rows q, Some (value.Rows []))
    ∷ made (object.Relation q) boot (owner_only table_rights)
    ++ flat_map (λ c. default_set q c.name c.default) columns
    ++ map (λ c. (key.Con q c.name, Some (check_value c.text))) checks

-- behind the columns, which are resolved
abbrev pub table_made : Bytes → QName → List ColumnDef → List CheckDef → List Column → Tree
table_made boot q columns checks resolved =
    needs_each (but (key.Rel q) (check_references checks))
    (sets (table_changes boot q columns checks resolved))

-- behind the schema
abbrev pub table_here : Bytes → QName → List ColumnDef → List CheckDef → Tree
table_here boot q columns checks =
    free (key.Rel q)
    (check (fits_table columns checks) cause.WrongColumns
    (needs_columns q columns (table_made boot q columns checks)))
