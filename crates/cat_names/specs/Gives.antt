-- What a check answered, set against the fault that is due: none where it answers Ok, and the one that it names.
-- Want of memory says nothing.
use Rattle.std.specs.Prelude.{◌≡◌, Option, Some, None, Result, Ok, Err}
use Rattle.cat_names.specs.declared.fault.LineFault.{LineFault}
use Rattle.cat_names.specs.declared.fault.LineError.{LineError}
use Rattle.cat_names.specs.declared.fault.LineError.TheVariants as line
use Rattle.cat_names.specs.declared.fault.CatFault.{CatFault}
use Rattle.cat_names.specs.declared.fault.CheckError.{CheckError}
use Rattle.cat_names.specs.declared.fault.CheckError.TheVariants as table

abbrev pub IsLineDue : LineError → Option LineFault → Type 0
IsLineDue (line.Fault fault) due = due ≡ Some fault
IsLineDue line.Memory due = Unit {0}

abbrev pub GivesLine : {A : Type 0} → Result A LineError → Option LineFault → Type 0
GivesLine (Ok x) due = due ≡ None
GivesLine (Err error) due = IsLineDue error due

abbrev pub IsTableDue : CheckError → Option CatFault → Type 0
IsTableDue (table.Fault fault) due = due ≡ Some fault
IsTableDue table.Memory due = Unit {0}

abbrev pub GivesTable : {A : Type 0} → Result A CheckError → Option CatFault → Type 0
GivesTable (Ok x) due = due ≡ None
GivesTable (Err error) due = IsTableDue error due
