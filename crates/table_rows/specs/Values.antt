-- Whether the texts of tables hold rows of them, and the first that doesn't: tables by rising oid, rows as they stand.
use Rattle.std.specs.Prelude.{◌≡◌, ℕ, List, [], ◌∷◌, ◌++◌, true, All, Option, Some, None, unwrap_or, Result, Ok, Err}
use Rattle.std.specs.FinMap.{get}
use Rattle.std.specs.Option.{option_or}
use Rattle.std.specs.Result.{is_ok}
use Rattle.copy_text.specs.Rows.{Field}
use Rattle.data_rows.specs.declared.fault.RowsFault.{RowsFault}
use Rattle.data_rows.specs.Rows.{rows_of}
use Rattle.cat_rows.specs.declared.catalogue.Catalogue.{Catalogue}
use Rattle.cat_model.specs.Values.{Bytes}
use Rattle.cat_names.specs.DataSets.{TextsByOid}
use Rattle.table_rows.specs.declared.fault.ValuesFault.{ValuesFault}
use Rattle.table_rows.specs.declared.fault.CheckValuesError.{CheckValuesError}
use Rattle.table_rows.specs.declared.fault.CheckValuesError.TheVariants.{Fault, Memory}
use Rattle.table_rows.specs.Tables.{table_oids, column_count}

-- the text put for a table; none is the empty text
abbrev pub text_of : TextsByOid → ℕ → Bytes
text_of rows oid = unwrap_or (get rows oid) []

-- what is wrong with a table whose text reads so
abbrev pub fault_in : ℕ → Result (List (List Field)) RowsFault → Option ValuesFault
fault_in table (Ok rows) = None
fault_in table (Err first) = Some (record { table = table; row = first.row; fault = first.fault })

-- the first fault of these tables, each with its number of columns and its text
unfoldable pub first_fault : (ℕ → ℕ) → (ℕ → Bytes) → List ℕ → Option ValuesFault
first_fault columns text [] = None
first_fault columns text (table ∷ tables) = option_or (fault_in table (rows_of (columns table) (text table))) (first_fault columns text tables)

-- the first fault of the texts of a catalogue's tables
unfoldable pub values_fault : Catalogue → TextsByOid → Option ValuesFault
values_fault cat rows = first_fault (column_count cat) (text_of rows) (table_oids cat)

-- the text of this table fails in this way, and those of the tables before it have rows
pub record FailsFirst (cat : Catalogue) (rows : TextsByOid) (fault : ValuesFault) : Type 0 where
  pub before : List ℕ
  pub after : List ℕ
  pub split : table_oids cat ≡ before ++ fault.table ∷ after
  pub good : All (λ oid. is_ok (rows_of (column_count cat oid) (text_of rows oid)) ≡ true) before
  pub fails : rows_of (column_count cat fault.table) (text_of rows fault.table) ≡ Err (record { row = fault.row; fault = fault.fault })

-- what a check answered is what is due, unless memory ran out
abbrev pub GivesCheck : Result (Unit {0}) CheckValuesError → Option ValuesFault → Type 0
GivesCheck (Ok done) due = due ≡ None
GivesCheck (Err (Fault fault)) due = due ≡ Some fault
GivesCheck (Err Memory) due = Unit {0}
