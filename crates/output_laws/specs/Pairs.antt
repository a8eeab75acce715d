-- Entries beside the rows' texts that a dump puts out for them.
use Rattle.std.specs.Prelude.{◌≡◌, ℕ, Bool, true, false, List, [], ◌∷◌, map, Option, Some, None, option_map, codes}
use Rattle.std.specs.Global.{Vec}
use Rattle.dump_ports.specs.Tree.{Tree}
use Rattle.toc_entry.specs.declared.entry.Entry.{Entry}
use Rattle.toc_entry.specs.declared.head.Head.{Head}
use Rattle.archive_entries.specs.Extras.{unplaced}
use Rattle.fmt_custom.specs.Stored.{Stored}
use Rattle.dump_files.specs.declared.file.DataFile.{DataFile}
use Rattle.dump_plain.specs.Dumps.{file_rows}
use Rattle.dump_archives.specs.Pieces.{pieces_of}
use Rattle.dump_archives.specs.Customs.{placed_entries}

-- an entry with rows is the data of a table, none of its rows fails, and these are their texts; one without rows has none
abbrev pub HasText : Tree → Entry → Bool → List DataFile → Option (List ℕ) → (List DataFile → Type 0) → Type 0
HasText tree e false needed rows more = (rows ≡ None) × more needed
HasText tree e true [] rows more = ⊥
HasText tree e true (file ∷ needed) rows more = (e.desc ≡ codes "TABLE DATA") × ((file_rows tree file).fault ≡ None) × (rows ≡ Some (file_rows tree file).text) × more needed

-- each entry with the text of its rows
abbrev pub HaveTexts : Tree → List Entry → List DataFile → List (Entry × Option (Vec ℕ)) → Type 0
HaveTexts tree [] needed [] = Unit {0}
HaveTexts tree [] needed (s ∷ ss) = ⊥
HaveTexts tree (e ∷ es) needed [] = ⊥
HaveTexts tree (e ∷ es) needed (s ∷ ss) = (s.0 ≡ e) × HasText tree e e.has_rows needed (option_map (λ v. v.items) s.1) (λ others. HaveTexts tree es others ss)

-- the same of pieces
abbrev pub HasPieces : Tree → Bool → List DataFile → List (List ℕ) → (List DataFile → Type 0) → Type 0
HasPieces tree false needed pieces more = more needed
HasPieces tree true [] pieces more = ⊥
HasPieces tree true (file ∷ needed) pieces more = ((file_rows tree file).fault ≡ None) × (pieces ≡ pieces_of (file_rows tree file).text) × more needed

abbrev pub HavePieces : Tree → List Entry → List DataFile → List Stored → Type 0
HavePieces tree [] needed [] = Unit {0}
HavePieces tree [] needed (s ∷ ss) = ⊥
HavePieces tree (e ∷ es) needed [] = ⊥
HavePieces tree (e ∷ es) needed (s ∷ ss) = (s.entry ≡ e) × HasPieces tree e.has_rows needed s.pieces (λ others. HavePieces tree es others ss)

-- the entries of a dump in the custom format, as they are told in the end: to standard output without places, in a file with
-- the places of their blocks
abbrev pub written_entries : Tree → Option (List ℕ) → Head → List Entry → List DataFile → List Entry
written_entries tree None head entries needed = map unplaced entries
written_entries tree (Some name) head entries needed = placed_entries tree head entries needed
