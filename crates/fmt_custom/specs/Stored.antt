-- A whole custom archive as it is written: the head and the entries, and behind them the blocks of the entries with rows,
-- in the order of the entries.
use Rattle.std.specs.Prelude.{◌≡◌, ℕ, zero, suc, ◌+◌, ◌<◌, ◌^◌, Bool, true, false, List, [], ◌∷◌, ◌++◌, length, map, Option, Some, None}
use Rattle.std.specs.List.{AllByRecursion}
use Rattle.toc_entry.specs.declared.entry.Entry.{Entry}
use Rattle.toc_entry.specs.declared.entry.Extra.{Extra}
use Rattle.toc_entry.specs.declared.entry.Extra.TheVariants.{Place, File}
use Rattle.toc_layout.specs.Heads.{HeadFields}
use Rattle.toc_layout.specs.Values.{IsHead}
use Rattle.toc_layout.specs.Writable.{HeadCanBeWritten}
use Rattle.toc_table.specs.Writing.{TocFits}
use Rattle.fmt_custom.specs.Blocks.{piece, pieces}
use Rattle.fmt_custom.specs.Customs.{Found, Custom}
use Rattle.fmt_custom.specs.Writing.{front_text, start_text}

-- an entry, and the pieces of its rows
pub record Stored : Type 0 where
  pub entry : Entry
  pub pieces : List (List ℕ)

abbrev pub entries_of : List Stored → List Entry
entries_of ss = map (λ s. s.entry) ss

-- what begins a block, the pieces and their end; nothing of an entry without rows
abbrev pub block_by : Bool → ℕ → List (List ℕ) → List ℕ
block_by false id ps = []
block_by true id ps = start_text id ++ pieces.write ps

-- what stands of a block once some pieces are out, and its end isn't
abbrev pub pieces_out : List (List ℕ) → List ℕ
pieces_out [] = []
pieces_out (p ∷ ps) = piece.write (Some p) ++ pieces_out ps

abbrev pub open_block : ℕ → List (List ℕ) → List ℕ
open_block id ps = start_text id ++ pieces_out ps

abbrev pub block_text : Stored → List ℕ
block_text s = block_by s.entry.has_rows s.entry.dump_id s.pieces

abbrev pub blocks_text : List Stored → List ℕ
blocks_text [] = []
blocks_text (s ∷ ss) = block_text s ++ blocks_text ss

abbrev pub custom_text : HeadFields → List Stored → List ℕ
custom_text h ss = front_text h (entries_of ss) ++ blocks_text ss

-- ---- where the blocks stand

abbrev pub place_behind : ℕ → Stored → ℕ
place_behind at s = at + length (block_text s)

abbrev pub found_by : Bool → ℕ → ℕ → List (List ℕ) → List Found → List Found
found_by false at id ps found = found
found_by true at id ps found = record { id = id; start = at; pieces = ps } ∷ found

-- the blocks from a place on, the last one first, behind those that were found
abbrev pub blocks_at : ℕ → List Found → List Stored → List Found
blocks_at at found [] = found
blocks_at at found (s ∷ ss) = blocks_at (place_behind at s) (found_by s.entry.has_rows at s.entry.dump_id s.pieces found) ss

-- the first block stands behind the head and the entries
abbrev pub first_place : HeadFields → List Stored → ℕ
first_place h ss = length (front_text h (entries_of ss))

-- what is written
abbrev pub custom_of : HeadFields → List Stored → Custom
custom_of h ss = record { head = h; entries = entries_of ss; found = blocks_at (first_place h ss) [] ss }

abbrev pub rows_by : Bool → List (List ℕ) → Option (List (List ℕ))
rows_by false ps = None
rows_by true ps = Some ps

-- the pieces of an entry's rows, none where it has no rows
abbrev pub rows_of : Stored → Option (List (List ℕ))
rows_of s = rows_by s.entry.has_rows s.pieces

-- ---- what can be written

-- no piece is empty
abbrev pub IsPiece : List ℕ → Type 0
IsPiece bytes = (0 < length bytes) × (length bytes < 2 ^ 32)

-- an offset that counts is the place of the entry's own block
abbrev pub OffsetLeads : ℕ → Bool → Extra → Type 0
OffsetLeads at has_rows (Place state offset) = state ≡ 2 → (has_rows ≡ true) × (offset ≡ at)
OffsetLeads at has_rows (File name) = Unit {0}

abbrev pub OffsetsLead : ℕ → List Stored → Type 0
OffsetsLead at [] = Unit {0}
OffsetsLead at (s ∷ ss) = OffsetLeads at s.entry.has_rows s.entry.extra × OffsetsLead (place_behind at s) ss

-- what reads as what was written
pub record CustomFits (h : HeadFields) (ss : List Stored) : Type 0 where
  pub head : IsHead h
  pub can : HeadCanBeWritten h
  pub format : h.format ≡ 1
  pub toc : TocFits false (entries_of ss)
  pub pieces : AllByRecursion (λ s. AllByRecursion IsPiece s.pieces) ss
  pub offsets : OffsetsLead (first_place h ss) ss

-- ---- the table of contents anew

abbrev pub placed_by : Bool → ℕ → Extra → Extra
placed_by false at x = x
placed_by true at x = Place 2 at

abbrev pub placed : ℕ → Stored → Stored
placed at s = record s { entry = record s.entry { extra = placed_by s.entry.has_rows at s.entry.extra } }

-- each entry with rows tells the place of its block, the first of which stands at a place
abbrev pub placed_at : ℕ → List Stored → List Stored
placed_at at [] = []
placed_at at (s ∷ ss) = placed at s ∷ placed_at (place_behind at s) ss

abbrev pub all_placed : HeadFields → List Stored → List Stored
all_placed h ss = placed_at (first_place h ss) ss

-- the first so many of them tell it
abbrev pub first_placed : ℕ → ℕ → List Stored → List Stored
first_placed zero at ss = ss
first_placed (suc k) at [] = []
first_placed (suc k) at (s ∷ ss) = placed at s ∷ first_placed k (place_behind at s) ss

-- where the block of the entry of an index stands
abbrev pub place_of : ℕ → ℕ → List Stored → ℕ
place_of zero at ss = at
place_of (suc k) at [] = at
place_of (suc k) at (s ∷ ss) = place_of k (place_behind at s) ss
