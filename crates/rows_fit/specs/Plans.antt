-- What is worked out once for all lines of a COPY: the order of the fields, and which columns take no null.
use Rattle.std.specs.Prelude.{◌≡◌, ℕ, Bool, List, length, map, Option}
use Rattle.cat_model.specs.declared.value.Column.{Column}
use Rattle.cat_model.specs.Values.{Bytes, Row}
use Rattle.cat_model.specs.CopiedRows.{in_order, no_null}
use Rattle.rows_fit.specs.Orders.{ordered_by}

-- the order is that of these names, and the columns that take no null are those of the table and of this primary key
pub record Stands (columns : List Column) (names primary : List Bytes) (order : Option (List (Option ℕ))) (required : List Bool) : Type 0 where
  pub ordered : (fields : Row) → length fields ≡ length columns → in_order columns names fields ≡ ordered_by order fields
  pub marked : required ≡ map (no_null primary) columns
