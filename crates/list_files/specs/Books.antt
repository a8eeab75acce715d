-- Where entries stand, by their dump ids, and which places were met.
use Rattle.std.specs.Prelude.{◌≡◌, ℕ, nat_eq, ◌==◌, List, Option}
use Rattle.std.specs.HashMap.{HashMap, get}
use Rattle.std.specs.HashSet.{HashSet, contains}
use Rattle.std.specs.List.{list_any}
use Rattle.toc_entry.specs.declared.entry.Entry.{Entry}
use Rattle.list_files.specs.Edits.{place_among}
use Rattle.list_files.specs.declared.fault.EditError.{EditError}
use Rattle.list_files.specs.declared.fault.EditError.TheVariants as errors
use Rattle.list_files.specs.declared.fault.ListFault.{ListFault}
use Rattle.std.specs.Prelude.{Some, None}

-- the book leads to these entries, the last one first
abbrev pub LeadsTo : {S : Type 0} → List Entry → HashMap ℕ ℕ S → Type 0
LeadsTo before book = (id : ℕ) → get nat_eq book id ≡ place_among before id

-- the set has these places
abbrev pub AreMet : {S : Type 0} → List ℕ → HashSet ℕ S → Type 0
AreMet places met = (i : ℕ) → contains nat_eq met i ≡ list_any (λ j. j == i) places

-- an error that is no fault is want of memory
abbrev pub edit_fault : EditError → Option ListFault
edit_fault (errors.Fault f) = Some f
edit_fault errors.Memory = None
