-- What a dump in the custom format writes: the head and the entries, and behind them the block of each entry with rows, of
-- which the rows come from the next of the data files. A row that fails ends it on its way. In a file the head and the entries
-- are written anew once the rows are out, since the entries with rows tell the places of their blocks then.
use Rattle.std.specs.Prelude.{◌≡◌, ◌≤◌, ◌⊎◌, ℕ, ◌+◌, Bool, true, false, List, [], ◌∷◌, ◌++◌, length, take, drop, map, Option, Some, None}
use Rattle.dump_ports.specs.Tree.{Tree}
use Rattle.data_rows.specs.declared.fault.RowsFault.{RowsFault}
use Rattle.toc_entry.specs.declared.entry.Entry.{Entry}
use Rattle.toc_entry.specs.declared.head.Head.{Head}
use Rattle.toc_layout.specs.Heads.{head_seen}
use Rattle.fmt_custom.specs.Stored.{block_by, open_block}
use Rattle.fmt_custom.specs.Writing.{front_text}
use Rattle.archive_entries.specs.Extras.{unplaced, told}
use Rattle.dump_files.specs.declared.file.DataFile.{DataFile}
use Rattle.dump_files.specs.Spelled.{Spelled}
use Rattle.dump_files.specs.Outlets.{Outside, outputs, IsBegun}
use Rattle.dump_plain.specs.Dumps.{Output, of_text, after, file_rows}
use Rattle.dump_archives.specs.Pieces.{pieces_of}

abbrev pub block_then_by : ℕ → ℕ → Spelled → Option RowsFault → Output → Output
block_then_by id table rows None more = after (block_by true id (pieces_of rows.text)) rows.rows more
block_then_by id table rows (Some first) more = record { text = open_block id (pieces_of rows.text); rows = rows.rows; bad = Some (record { table = table; first = first }) }

-- the block of an entry in front; where a row fails, it isn't ended, and nothing is behind it
unfoldable pub block_then : ℕ → ℕ → Spelled → Output → Output
block_then id table rows more = block_then_by id table rows rows.fault more

-- the block of the next data file, for an entry that has rows
abbrev pub with_block : Tree → ℕ → Bool → List DataFile → (List DataFile → Output) → Output
with_block tree id false needed more = more needed
with_block tree id true [] more = more []
with_block tree id true (file ∷ needed) more = block_then id file.table (file_rows tree file) (more needed)

unfoldable pub blocks_out : Tree → List Entry → List DataFile → Output
blocks_out tree [] needed = of_text []
blocks_out tree (e ∷ es) needed = with_block tree e.dump_id e.has_rows needed (blocks_out tree es)

-- the whole dump, with the entries as they are
unfoldable pub custom_out : Tree → Head → List Entry → List DataFile → Output
custom_out tree head entries needed = after (front_text (head_seen head) entries) 0 (blocks_out tree entries needed)

-- the head and the entries, while no place is known
abbrev pub first_front : Head → List Entry → List ℕ
first_front head entries = front_text (head_seen head) (map unplaced entries)

-- the whole dump without places: so it stands on standard output, and in a file before places are told
abbrev pub unplaced_out : Tree → Head → List Entry → List DataFile → Output
unplaced_out tree head entries needed = custom_out tree head (map unplaced entries) needed

-- ---- places

-- the place of the next data file's block, for an entry that has rows, and of those behind it
abbrev pub place_then : Tree → ℕ → ℕ → Bool → List DataFile → (ℕ → List DataFile → List ℕ) → List ℕ
place_then tree at id false needed more = more at needed
place_then tree at id true [] more = more at []
place_then tree at id true (file ∷ needed) more = at ∷ more (at + length (block_by true id (pieces_of (file_rows tree file).text))) needed

-- the places of the blocks, of which the first stands at a place
unfoldable pub places_from : Tree → ℕ → List Entry → List DataFile → List ℕ
places_from tree at [] needed = []
places_from tree at (e ∷ es) needed = place_then tree at e.dump_id e.has_rows needed (λ behind left. places_from tree behind es left)

-- the blocks stand behind the head and the entries
abbrev pub placed_entries : Tree → Head → List Entry → List DataFile → List Entry
placed_entries tree head entries needed = told entries (places_from tree (length (first_front head entries)) entries needed)

-- the head and the entries, once the places are known
unfoldable pub custom_front : Tree → Head → List Entry → List DataFile → List ℕ
custom_front tree head entries needed = front_text (head_seen head) (placed_entries tree head entries needed)

-- what is written in the end: to standard output without places, and to a file with them
abbrev pub custom_written : Tree → Option (List ℕ) → Head → List Entry → List DataFile → List ℕ
custom_written tree None head entries needed = (unplaced_out tree head entries needed).text
custom_written tree (Some name) head entries needed = custom_front tree head entries needed ++ (blocks_out tree entries needed).text

-- ---- a dump that ends on its way

-- in a file all is out, and some first part of the head and the entries is written anew
abbrev pub IsHalfPlaced : Option (List ℕ) → List ℕ → List ℕ → Outside → Outside → Type 0
IsHalfPlaced None front text before after_it = ⊥
IsHalfPlaced (Some name) front text before after_it = (n : ℕ) × (n ≤ length front) × (after_it ≡ outputs (Some name) (take n front ++ drop n text) before)

-- nothing changed, or some first part of the dump without places is put out; or no row fails, and places are told in part
abbrev pub IsHalted : Tree → Option (List ℕ) → Head → List Entry → List DataFile → Outside → Outside → Type 0
IsHalted tree target head entries needed before after_it =
    let due = unplaced_out tree head entries needed in
    IsBegun target due.text before after_it ⊎ ((due.bad ≡ None) × IsHalfPlaced target (custom_front tree head entries needed) due.text before after_it)
