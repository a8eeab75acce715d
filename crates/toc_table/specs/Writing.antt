-- The one spelling of a table of contents.
use Rattle.std.specs.Prelude.{◌≡◌, ℕ, ◌≤◌, Bool, false, pos, List, [], ◌∷◌, ◌++◌, length}
use Rattle.std.specs.List.{AllByRecursion}
use Rattle.toc_entry.specs.declared.entry.Entry.{Entry}
use Rattle.toc_layout.specs.Entries.{whole}
use Rattle.toc_layout.specs.Values.{IsEntry}
use Rattle.toc_layout.specs.Writable.{EntryCanBeWritten, is_file, entry_text}
use Rattle.toc_table.specs.Ids.{is_among}

abbrev pub entries_text : List Entry → List ℕ
entries_text [] = []
entries_text (e ∷ es) = entry_text e ++ entries_text es

-- the number of the entries, and they
abbrev pub toc_text : List Entry → List ℕ
toc_text es = whole.write (pos (length es)) ++ entries_text es

-- each has a dump id that no earlier one has
abbrev pub HasOwnIds : List ℕ → List Entry → Type 0
HasOwnIds earlier [] = Unit {0}
HasOwnIds earlier (e ∷ es) = (is_among earlier e.dump_id ≡ false) × HasOwnIds (e.dump_id ∷ earlier) es

-- entries of the code's types that can be written, all of a directory or none
pub record EntryFits (directory : Bool) (e : Entry) : Type 0 where
  pub value : IsEntry e
  pub can : EntryCanBeWritten e
  pub kind : is_file e.extra ≡ directory

-- what reads as what was written: at most 200,000 entries, of distinct dump ids
pub record TocFits (directory : Bool) (es : List Entry) : Type 0 where
  pub few : length es ≤ 200000
  pub each : AllByRecursion (EntryFits directory) es
  pub own : HasOwnIds [] es
