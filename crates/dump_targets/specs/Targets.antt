-- Where a dump may be written.
use Rattle.std.specs.Prelude.{◌≡◌, false, Option, Some, None}
use Rattle.cat_model.specs.Values.{Bytes}
use Rattle.command_line.specs.Checks.{lies_in}
use Rattle.dump_outputs.specs.declared.form.DumpForm.{DumpForm}
use Rattle.dump_outputs.specs.declared.form.DumpForm.TheVariants.{Script, Custom, Directory}

-- the file of this name doesn't lie in the folder; standard output doesn't
abbrev pub IsOutside : Bytes → Option Bytes → Type 0
IsOutside folder None = Unit {0}
IsOutside folder (Some name) = lies_in folder name ≡ false

-- a dump in this form is written outside of the folder, or into a folder of its own, whose files have other names than data
-- files have
abbrev pub IsFormOutside : Bytes → DumpForm → Type 0
IsFormOutside folder (Script target owners) = IsOutside folder target
IsFormOutside folder (Custom target) = IsOutside folder target
IsFormOutside folder (Directory name) = Unit {0}
