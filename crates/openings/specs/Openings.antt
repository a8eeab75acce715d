-- A folder taken in as an opening: an export whose rows meet their tables.
use Rattle.std.specs.Prelude.{◌≡◌, ℕ, Option, Some, None, Result, Ok, Err}
use Rattle.dump_ports.specs.Tree.{Tree}
use Rattle.folder_io.specs.declared.file.ExportFile.TheVariants.{Data}
use Rattle.cat_model.specs.declared.cause.Cause.{Cause}
use Rattle.cat_model.specs.declared.cause.Cause.TheVariants as cause
use Rattle.cat_model.specs.Values.{Bytes, Named}
use Rattle.cat_load.specs.Entries.{catalogue_named}
use Rattle.cat_load.specs.Texts.{rows_by_oid}
use Rattle.cat_load.specs.declared.meeting.LoadFault.{LoadFault}
use Rattle.cat_load.specs.Loads.{rows_fault}
use Rattle.tool_words.specs.declared.outcome.ExportFault.TheVariants.{Values}
use Rattle.tool_words.specs.declared.outcome.Outcome.{Outcome}
use Rattle.tool_words.specs.declared.outcome.Outcome.TheVariants.{BadExport}
use Rattle.tool_words.specs.Answers.{◌>>=◌}
use Rattle.exports.specs.Catalogues.{catalogue_fault}
use Rattle.exports.specs.Exports.{Exported, export_of}

-- the row at which a table fails, counted from 1: of two with one key the second
abbrev pub cause_row : Cause → ℕ
cause_row (cause.BadValue column row) = row
cause_row (cause.NullValue column row) = row
cause_row (cause.Duplicate name first second) = second
cause_row (cause.NoParent name row) = row
cause_row (cause.Fields row found) = row
cause_row (cause.BadRow row fault) = row
cause_row _ = 0

-- the outcome where a table can't have its rows
abbrev pub load_outcome : LoadFault → Outcome
load_outcome fault = BadExport (Data fault.table) (cause_row fault.cause) (Values fault.cause)

-- the rows of each table meet it
abbrev pub meet : Option LoadFault → Result (Unit {0}) Outcome
meet None = Ok tt
meet (Some fault) = Err (load_outcome fault)

-- an export whose rows meet their tables
abbrev pub opened : Exported → Result Exported Outcome
opened export = meet (rows_fault export.cat export.rows) >>= λ done. Ok export

-- the opening that a folder holds
unfoldable pub opened_folder : Bytes → Tree → Result Exported Outcome
opened_folder folder tree = export_of folder tree >>= opened

-- what an export stands for by names
unfoldable pub export_named : Exported → Named
export_named export = catalogue_named export.cat (rows_by_oid export.rows)

-- the map is what the export stands for, which is well-formed, and its rows meet their tables
pub record IsMap (export : Exported) (map : Named) : Type 0 where
  pub stands : map ≡ export_named export
  pub formed : catalogue_fault export.cat ≡ None
  pub meets : rows_fault export.cat export.rows ≡ None
