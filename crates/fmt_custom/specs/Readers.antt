-- What a reader of a custom archive holds.
use Rattle.std.specs.Prelude.{◌≡◌, ℕ, List, Result, Ok, Err, MatchOption, ⊤}
use Rattle.toc_layout.specs.declared.fault.ArchiveFault.{ArchiveFault}
use Rattle.toc_layout.specs.declared.fault.ReadArchiveError.{ReadArchiveError}
use Rattle.toc_layout.specs.Faults.{archive_fault}
use Rattle.toc_layout.specs.Heads.{head_seen}
use Rattle.fmt_custom.specs.declared.blocks.Blocks.{Blocks}
use Rattle.fmt_custom.specs.declared.reader.CustomReader.{CustomReader}
use Rattle.fmt_custom.specs.Customs.{Found, Custom}
use Rattle.fmt_custom.specs.Indexes.{LeadsToRows, AreFound}

-- the reader holds what the archive holds
pub record Holds (reader : CustomReader) (custom : Custom) : Type 0 where
  pub head : head_seen reader.head ≡ custom.head
  pub entries : reader.entries.items ≡ custom.entries
  pub rows : LeadsToRows reader.bytes.now reader.rows custom.found

-- A reader holds what is read; a fault is the one that is met. An error that is no fault is want of memory.
abbrev pub GivesCustom : Result Custom ArchiveFault → Result CustomReader ReadArchiveError → Type 0
GivesCustom due (Ok reader) = (custom : Custom) × (due ≡ Ok custom) × Holds reader custom
GivesCustom due (Err e) = MatchOption (archive_fault e) ⊤ (λ f. due ≡ Err f)

abbrev pub GivesPlacedBlocks : List ℕ → Result (List Found) ArchiveFault → Result Blocks ReadArchiveError → Type 0
GivesPlacedBlocks bytes due (Ok blocks) = (found : List Found) × (due ≡ Ok found) × AreFound bytes blocks found
GivesPlacedBlocks bytes due (Err e) = MatchOption (archive_fault e) ⊤ (λ f. due ≡ Err f)
