-- How an answer of the code agrees with what is due.
use Rattle.std.specs.Prelude.{◌≡◌, ℕ, ◌≤◌, [], Result, Ok, Err}
use Rattle.dump_ports.specs.Faults.{HasRisen}
use Rattle.toc_layout.specs.Heads.{head_seen}
use Rattle.toc_table.specs.Ids.{AreIds}
use Rattle.toc_table.specs.Tables.{ids_with_rows}
use Rattle.fmt_directory.specs.declared.fault.DirFault.{DirFault}
use Rattle.fmt_directory.specs.declared.fault.DirFault.TheVariants.{Failed, Memory}
use Rattle.fmt_directory.specs.declared.reader.DirReader.{DirReader}
use Rattle.fmt_directory.specs.Directories.{Directory}

-- A fault is the one that is due. Want of memory, and a failed call on the outside, may come at any time.
abbrev pub IsDue : {Y : Type 0} → DirFault → Result Y DirFault → Type 0
IsDue Failed due = Unit {0}
IsDue Memory due = Unit {0}
IsDue fault due = due ≡ Err fault

-- an answer, seen by view, is the one that is due
abbrev pub GivesDue : {X Y : Type 0} → (X → Y) → Result X DirFault → Result Y DirFault → Type 0
GivesDue view (Ok x) due = due ≡ Ok (view x)
GivesDue view (Err fault) due = IsDue fault due

-- the count of read faults rose where the answer is Failed, and stayed where it isn't
abbrev pub CountsRead : {X : Type 0} → Result X DirFault → ℕ → ℕ → Type 0
CountsRead (Err Failed) before after = (before ≤ after) × HasRisen before after
CountsRead _ before after = after ≡ before

-- an answer that comes without a failed call
abbrev pub IsCallFree : DirFault → Type 0
IsCallFree Failed = ⊥
IsCallFree fault = Unit {0}

-- the reader holds what the archive holds
pub record Holds (reader : DirReader) (d : Directory) : Type 0 where
  pub folder : reader.folder ≡ d.folder
  pub head : head_seen reader.head ≡ d.head
  pub entries : reader.entries.items ≡ d.entries
  pub ids : AreIds reader.ids (ids_with_rows [] d.entries)

abbrev pub GivesReader : Result Directory DirFault → Result DirReader DirFault → Type 0
GivesReader due (Ok reader) = (d : Directory) × (due ≡ Ok d) × Holds reader d
GivesReader due (Err fault) = IsDue fault due
