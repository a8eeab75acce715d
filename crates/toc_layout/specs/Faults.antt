-- Faults of heads and entries: while bytes are read from the front, the place is told by the bytes that are left; in all
-- of the bytes, by what stands before it.
use Rattle.std.specs.Prelude.{ℕ, ◌-◌, length, Option, Some, None, Result, Ok, Err}
use Rattle.toc_parts.specs.declared.fault.FieldFault.{FieldFault}
use Rattle.toc_parts.specs.declared.fault.FieldFault.TheVariants as fields
use Rattle.toc_parts.specs.declared.fault.FieldError.{FieldError}
use Rattle.toc_parts.specs.declared.fault.FieldError.TheVariants as errors
use Rattle.toc_parts.specs.Parts.{Reading}
use Rattle.toc_layout.specs.declared.fault.EntryHalt.{EntryHalt}
use Rattle.toc_layout.specs.declared.fault.EntryHalt.TheVariants.{Short, BadNumber, BadSection, BadString, BadState}
use Rattle.toc_layout.specs.declared.fault.EntryStop.{EntryStop}
use Rattle.toc_layout.specs.declared.fault.EntryStop.TheVariants as stops
use Rattle.toc_layout.specs.declared.fault.EntryFault.{EntryFault}
use Rattle.toc_layout.specs.declared.fault.EntryFault.TheVariants as entries
use Rattle.toc_layout.specs.declared.fault.ReadEntryError.{ReadEntryError}
use Rattle.toc_layout.specs.declared.fault.ReadEntryError.TheVariants as entry_errors
use Rattle.toc_layout.specs.declared.fault.HeadHalt.{HeadHalt}
use Rattle.toc_layout.specs.declared.fault.HeadHalt.TheVariants as halts
use Rattle.toc_layout.specs.declared.fault.HeadStop.{HeadStop}
use Rattle.toc_layout.specs.declared.fault.HeadStop.TheVariants as head_stops
use Rattle.toc_layout.specs.declared.fault.HeadFault.{HeadFault}
use Rattle.toc_layout.specs.declared.fault.HeadFault.TheVariants as heads
use Rattle.toc_layout.specs.declared.fault.ReadHeadError.{ReadHeadError}
use Rattle.toc_layout.specs.declared.fault.ReadHeadError.TheVariants as head_errors
use Rattle.toc_layout.specs.declared.fault.ArchiveFault.{ArchiveFault}
use Rattle.toc_layout.specs.declared.fault.ReadArchiveError.{ReadArchiveError}
use Rattle.toc_layout.specs.declared.fault.ReadArchiveError.TheVariants as archive_errors

-- ---- entries

abbrev pub in_entry : FieldFault → EntryHalt
in_entry fields.Short = Short
in_entry (fields.BadString left) = BadString left

abbrev pub entry_stop : FieldError → EntryStop
entry_stop (errors.Fault f) = stops.Halt (in_entry f)
entry_stop errors.Memory = stops.Memory

abbrev pub entry_halt : EntryStop → Option EntryHalt
entry_halt (stops.Halt h) = Some h
entry_halt stops.Memory = None

abbrev pub entry_fault : ReadEntryError → Option EntryFault
entry_fault (entry_errors.Fault f) = Some f
entry_fault entry_errors.Memory = None

-- the fault in bytes of this length
abbrev pub placed_entry_fault : ℕ → EntryHalt → EntryFault
placed_entry_fault len Short = entries.Short len
placed_entry_fault len (BadNumber left) = entries.BadNumber (len - left)
placed_entry_fault len (BadSection left) = entries.BadSection (len - left)
placed_entry_fault len (BadString left) = entries.BadString (len - left)
placed_entry_fault len (BadState left) = entries.BadState (len - left)

-- ---- heads

abbrev pub in_head : FieldFault → HeadHalt
in_head fields.Short = halts.Short
in_head (fields.BadString left) = halts.BadString left

abbrev pub head_stop : FieldError → HeadStop
head_stop (errors.Fault f) = head_stops.Halt (in_head f)
head_stop errors.Memory = head_stops.Memory

abbrev pub head_halt : HeadStop → Option HeadHalt
head_halt (head_stops.Halt h) = Some h
head_halt head_stops.Memory = None

abbrev pub head_fault : ReadHeadError → Option HeadFault
head_fault (head_errors.Fault f) = Some f
head_fault head_errors.Memory = None

abbrev pub placed_head_fault : ℕ → HeadHalt → HeadFault
placed_head_fault len halts.Magic = heads.Magic
placed_head_fault len halts.Short = heads.Short len
placed_head_fault len (halts.Version major minor) = heads.Version major minor
placed_head_fault len halts.IntSize = heads.IntSize
placed_head_fault len halts.OffSize = heads.OffSize
placed_head_fault len (halts.Compressed code) = heads.Compressed code
placed_head_fault len (halts.BadString left) = heads.BadString (len - left)

abbrev pub archive_fault : ReadArchiveError → Option ArchiveFault
archive_fault (archive_errors.Fault f) = Some f
archive_fault archive_errors.Memory = None

-- ---- places in all of the bytes

-- what is read with the place behind it, in bytes of this length
abbrev pub placed : {E F A : Type 0} → (ℕ → E → F) → ℕ → Reading E A → Result (A × ℕ) F
placed fault len (Ok x) = Ok (x.0, len - length x.1)
placed fault len (Err e) = Err (fault len e)

-- the error of an entry in bytes of this length
abbrev pub placed_stop : ℕ → EntryStop → ReadEntryError
placed_stop len (stops.Halt h) = entry_errors.Fault (placed_entry_fault len h)
placed_stop len stops.Memory = entry_errors.Memory
