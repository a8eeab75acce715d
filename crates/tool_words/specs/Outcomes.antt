-- The outcomes to which the faults of the crates below come.
use Rattle.std.specs.Prelude.{ℕ}
use Rattle.cat_model.specs.declared.cause.Cause.{Cause}
use Rattle.cat_model.specs.declared.cause.Cause.TheVariants as causes
use Rattle.data_rows.specs.declared.fault.DataFault.{DataFault}
use Rattle.data_rows.specs.declared.fault.DataFault.TheVariants as rows
use Rattle.table_rows.specs.declared.fault.ValuesFault.{ValuesFault}
use Rattle.table_rows.specs.declared.fault.CheckValuesError.{CheckValuesError}
use Rattle.table_rows.specs.declared.fault.CheckValuesError.TheVariants as values
use Rattle.cat_names.specs.declared.fault.CatFault.{CatFault}
use Rattle.cat_names.specs.declared.fault.FaultKind.{FaultKind}
use Rattle.cat_names.specs.declared.fault.FaultKind.TheVariants as kinds
use Rattle.cat_names.specs.declared.fault.CheckError.{CheckError}
use Rattle.cat_names.specs.declared.fault.CheckError.TheVariants as check
use Rattle.folder_io.specs.declared.fault.ExportKind.{ExportKind}
use Rattle.folder_io.specs.declared.fault.ExportKind.TheVariants as export
use Rattle.folder_io.specs.declared.fault.FolderFault.{FolderFault}
use Rattle.folder_io.specs.declared.fault.FolderFault.TheVariants as folders
use Rattle.folder_io.specs.declared.fault.FolderLimit.{FolderLimit}
use Rattle.folder_io.specs.declared.fault.FolderLimit.TheVariants as limits
use Rattle.folder_io.specs.declared.file.ExportFile.TheVariants.{Table, Data}
use Rattle.tool_words.specs.declared.outcome.ExportFault.{ExportFault}
use Rattle.tool_words.specs.declared.outcome.ExportFault.TheVariants as faults
use Rattle.tool_words.specs.declared.outcome.Limit.{Limit}
use Rattle.tool_words.specs.declared.outcome.Limit.TheVariants.{TableFile, DataFile, Folder}
use Rattle.tool_words.specs.declared.outcome.Outcome.{Outcome}
use Rattle.tool_words.specs.declared.outcome.Outcome.TheVariants.{ReadFault, Missing, BadExport, OutOfProfile, TooLarge, Memory}

abbrev pub export_fault : ExportKind → ExportFault
export_fault export.Version = faults.Version
export_fault (export.Row fault) = faults.Row fault

abbrev pub limit_of : FolderLimit → Limit
limit_of limits.TableFile = TableFile
limit_of limits.DataFile = DataFile
limit_of limits.Folder = Folder

abbrev pub folder_outcome : FolderFault → Outcome
folder_outcome folders.Failed = ReadFault
folder_outcome (folders.Missing name) = Missing name
folder_outcome (folders.BadExport file line kind) = BadExport file line (export_fault kind)
folder_outcome (folders.TooLarge limit n) = TooLarge (limit_of limit) n
folder_outcome folders.Memory = Memory

-- what is left out is told as that, and all else as a fault of the table's line
abbrev pub fault_outcome : CatFault → FaultKind → Outcome
fault_outcome fault (kinds.OutOfProfile what) = OutOfProfile what
fault_outcome fault kind = BadExport (Table fault.table) fault.line (faults.Cat kind)

abbrev pub check_outcome : CheckError → Outcome
check_outcome (check.Fault fault) = fault_outcome fault fault.kind
check_outcome check.Memory = Memory

-- what is wrong with a row of a table's rows; it has the same number in its text
abbrev pub values_cause : ℕ → DataFault → Cause
values_cause row (rows.BadRow fault) = causes.BadRow row fault
values_cause row (rows.Fields found) = causes.Fields row found

-- a text that doesn't hold rows of its table is a fault of the line of its data file
abbrev pub values_outcome : ValuesFault → Outcome
values_outcome fault = BadExport (Data fault.table) fault.row (faults.Values (values_cause fault.row fault.fault))

abbrev pub check_values_outcome : CheckValuesError → Outcome
check_values_outcome (values.Fault fault) = values_outcome fault
check_values_outcome values.Memory = Memory
