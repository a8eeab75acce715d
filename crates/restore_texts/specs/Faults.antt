-- Faults of the steps as faults of the whole, and how an answer of the code agrees with what is due.
use Rattle.std.specs.Prelude.{◌≡◌, ℕ, ◌≤◌, Result, Ok, Err}
use Rattle.dump_ports.specs.Faults.{HasRisen}
use Rattle.toc_layout.specs.declared.fault.ReadArchiveError.{ReadArchiveError}
use Rattle.toc_layout.specs.declared.fault.ReadArchiveError.TheVariants as archive
use Rattle.fmt_directory.specs.declared.fault.DirFault.{DirFault}
use Rattle.fmt_directory.specs.declared.fault.DirFault.TheVariants as directory
use Rattle.list_files.specs.declared.fault.EditError.{EditError}
use Rattle.list_files.specs.declared.fault.EditError.TheVariants as list
use Rattle.restore_texts.specs.declared.fault.TextLimit.TheVariants as limit
use Rattle.restore_texts.specs.declared.fault.TextFault.{TextFault}
use Rattle.restore_texts.specs.declared.fault.TextFault.TheVariants as faults

abbrev pub of_archive : ReadArchiveError → TextFault
of_archive (archive.Fault f) = faults.Archive f
of_archive archive.Memory = faults.Memory

abbrev pub of_directory : DirFault → TextFault
of_directory directory.Failed = faults.Failed
of_directory (directory.Missing name) = faults.Missing name
of_directory (directory.TooLarge n) = faults.TooLarge limit.Archive n
of_directory (directory.Archive f) = faults.Archive f
of_directory directory.Memory = faults.Memory

abbrev pub of_list : EditError → TextFault
of_list (list.Fault f) = faults.List f
of_list list.Memory = faults.Memory

-- A fault is the one that is due. Want of memory, and a failed call on the outside, may come at any time.
abbrev pub IsDue : {Y : Type 0} → TextFault → Result Y TextFault → Type 0
IsDue faults.Failed due = Unit {0}
IsDue faults.Memory due = Unit {0}
IsDue fault due = due ≡ Err fault

-- an answer, seen by view, is the one that is due
abbrev pub GivesText : {X Y : Type 0} → (X → Y) → Result X TextFault → Result Y TextFault → Type 0
GivesText view (Ok x) due = due ≡ Ok (view x)
GivesText view (Err fault) due = IsDue fault due

-- the count of read faults rose where the answer is Failed, and stayed where it isn't
abbrev pub CountsRead : {X : Type 0} → Result X TextFault → ℕ → ℕ → Type 0
CountsRead (Err faults.Failed) before after = (before ≤ after) × HasRisen before after
CountsRead _ before after = after ≡ before

-- an answer that comes without a failed call
abbrev pub IsCallFree : TextFault → Type 0
IsCallFree faults.Failed = ⊥
IsCallFree fault = Unit {0}

-- an answer that may come at any time: a failed call, or want of memory
abbrev pub IsFree : TextFault → Type 0
IsFree faults.Failed = Unit {0}
IsFree faults.Memory = Unit {0}
IsFree fault = ⊥
