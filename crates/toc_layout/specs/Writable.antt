-- Which heads and entries can be written.
use Rattle.std.specs.Prelude.{◌≡◌, ℕ, ◌<◌, ◌≤◌, ◌^◌, Bool, true, false, List, length}
use Rattle.std.specs.Option.{ForSome}
use Rattle.toc_entry.specs.declared.entry.Entry.{Entry}
use Rattle.toc_entry.specs.declared.entry.Extra.{Extra}
use Rattle.toc_entry.specs.declared.entry.Extra.TheVariants.{Place, File}
use Rattle.toc_layout.specs.Entries.{entry}
use Rattle.toc_layout.specs.Heads.{HeadFields}

abbrev pub IsShort : List ℕ → Type 0
IsShort text = length text < 2 ^ 32

-- a head of version 1.15 without compression, whose texts are shorter than 2^32 bytes
pub record HeadCanBeWritten (h : HeadFields) : Type 0 where
  pub major : h.major ≡ 1
  pub minor : h.minor ≡ 15
  pub compression : h.compression ≡ 0
  pub dbname : IsShort h.dbname
  pub server : IsShort h.server
  pub dumper : IsShort h.dumper

abbrev pub ExtraCanBeWritten : Extra → Type 0
ExtraCanBeWritten (Place state offset) = (1 ≤ state) × (state ≤ 3)
ExtraCanBeWritten (File name) = IsShort name

-- the texts of an entry are shorter than 2^32 bytes
pub record HasShortTexts (e : Entry) : Type 0 where
  pub tag : IsShort e.tag
  pub desc : IsShort e.desc
  pub defn : ForSome e.defn IsShort
  pub drop_stmt : ForSome e.drop_stmt IsShort
  pub copy_stmt : ForSome e.copy_stmt IsShort
  pub namespace : ForSome e.namespace IsShort
  pub tablespace : ForSome e.tablespace IsShort
  pub tableam : ForSome e.tableam IsShort
  pub owner : ForSome e.owner IsShort

-- an entry with a dump id, a section and a state, and with short texts
pub record EntryCanBeWritten (e : Entry) : Type 0 where
  pub dump_id : 1 ≤ e.dump_id
  pub section : (1 ≤ e.section) × (e.section ≤ 4)
  pub texts : HasShortTexts e
  pub extra : ExtraCanBeWritten e.extra

-- its rows are in a file of a directory
abbrev pub is_file : Extra → Bool
is_file (Place state offset) = false
is_file (File name) = true

-- the one spelling of an entry, by where its rows are
abbrev pub entry_text : Entry → List ℕ
entry_text e = (entry (is_file e.extra)).write e
