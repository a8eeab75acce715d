-- What is read of the constraints and indexes of a table, and what is left of a COPY behind its conditions.
use Rattle.std.specs.Prelude.{List, ◌++◌, map, Option, Some, None, Result, if◌then◌else◌}
use Rattle.std.specs.List.{filter_map}
use Rattle.cat_model.specs.declared.object.QName.{QName}
use Rattle.cat_model.specs.declared.cause.Cause.{Cause}
use Rattle.cat_model.specs.declared.cause.Cause.TheVariants as cause
use Rattle.cat_model.specs.declared.class.Class.TheVariants as class
use Rattle.cat_model.specs.declared.key.Key.{Key}
use Rattle.cat_model.specs.declared.key.Key.TheVariants as key
use Rattle.cat_model.specs.declared.value.Column.{Column}
use Rattle.cat_model.specs.declared.value.Value.{Value}
use Rattle.cat_model.specs.declared.value.Value.TheVariants as value
use Rattle.cat_model.specs.Values.{Bytes, Row}
use Rattle.cat_model.specs.Conditions.{check}
use Rattle.cat_model.specs.CopiedRows.{all_columns, copied_rows}
use Rattle.cat_model.specs.CopyEffect.{Unique, primary_columns, unique_in, foreign_in, by_name, rows_added}
use Rattle.cat_model.specs.KeyEffects.{rows_in}
use Rattle.cat_model.specs.Trees.{Tree, Seen, look, scan, is_primary}
use Rattle.rows_fit.specs.KeyCauses.{linked, keys_cause}

-- the columns of a primary key
abbrev pub primary_in : Value → Option (List Bytes)
primary_in (value.Constraint c) = if is_primary c.kind then Some c.columns else None
primary_in _ = None

-- what keeps rows apart, by name
abbrev pub uniques_of : List (Key × Value) → List (Key × Value) → List Unique
uniques_of constraints indexes = by_name (filter_map unique_in (constraints ++ indexes))

-- why a table with these constraints, indexes and rows can't have the new ones behind them
abbrev pub cause_with : Seen → QName → List Column → List (Key × Value) → List (Key × Value) → List Row → List Row → Option Cause
cause_with seen q columns constraints indexes old new =
    keys_cause (uniques_of constraints indexes) (map (linked seen q (old ++ new)) (filter_map foreign_in constraints)) columns (old ++ new) new

-- the rows that were read, or the cause, under a table with these constraints, indexes and rows
abbrev pub added_with : QName → List Column → List (Key × Value) → List (Key × Value) → List Row → Result (List Row) Cause → Tree
added_with q columns constraints indexes old read =
    rows_added q columns (uniques_of constraints indexes) (filter_map foreign_in constraints) old read

abbrev pub copied_with : QName → List Column → List Bytes → Bytes → Tree
copied_with q columns names text =
    scan (class.Constraints q) (λ constraints.
    scan (class.Indexes q) (λ indexes.
    look (key.Rows q) (λ rows.
    added_with q columns constraints indexes (rows_in rows) (copied_rows columns names (primary_columns constraints) text))))

abbrev pub copied_into : QName → List Bytes → Bytes → List Column → Tree
copied_into q names text columns =
    check (all_columns columns names) cause.WrongColumns
    (copied_with q columns names text)
