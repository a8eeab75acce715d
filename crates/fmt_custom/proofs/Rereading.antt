-- The blocks that are written are found again, and no entry is at fault.
use Rattle.std.proofs.Common.{◌≡◌, ℕ, zero, suc, ◌+◌, ◌-◌, ◌<◌, ◌≤◌, ◌^◌, Bool, true, false, List, [], ◌∷◌, ◌++◌, length, Some, None, Result, Ok, refl, ap, ◌∙◌, arith, length-append, eqb}
use Rattle.std.specs.Prelude.{◌&&◌, is_none, if◌then◌else◌}
use Rattle.std.specs.List.{AllByRecursion}
use Rattle.std.proofs.lemmas.Bool.{eqb-true, eq-eqb}
use Rattle.toc_parts.specs.Parts.{◌>>=◌}
use Rattle.toc_entry.specs.declared.entry.Extra.{Extra}
use Rattle.toc_entry.specs.declared.entry.Extra.TheVariants.{Place, File}
use Rattle.toc_layout.specs.declared.fault.ArchiveFault.TheVariants as faults
use Rattle.toc_table.specs.Ids.{is_among}
use Rattle.toc_table.specs.Writing.{HasOwnIds}
use Rattle.fmt_custom.specs.declared.fault.BlockHalt.{BlockHalt}
use Rattle.fmt_custom.specs.Customs.{Found, ids_of, found_at, pieces_of, block_at, leads, offset_fault, entry_fault_in, or_else, first_fault}
use Rattle.fmt_custom.specs.Stored.{Stored, entries_of, block_by, block_text, blocks_text, place_behind, found_by, blocks_at, rows_by, rows_of, IsPiece, OffsetLeads, OffsetsLead}
use Rattle.fmt_custom.proofs.BlockFits.{block_is}
use Rattle.fmt_custom.proofs.Ids.{AreBehind, still_behind, away, pieces_stay, block_stays, own_pieces, own_block, IsReady}

-- ---- blocks

module _ (len : ℕ) (known : List ℕ) where
  step : (b : Bool) (n at id : ℕ) (ps : List (List ℕ)) (found : List Found) (rest : List ℕ) (due : Result (List Found) BlockHalt) → length (block_by b id ps ++ rest) ≤ n → at + length (block_by b id ps ++ rest) ≡ len
      → (b ≡ true → is_among known id ≡ true) → is_among (ids_of found) id ≡ false → id < 2 ^ 32 → AllByRecursion IsPiece ps
      → ((m : ℕ) → length rest ≤ m → found_at len known m (found_by b at id ps found) rest ≡ due) → found_at len known n found (block_by b id ps ++ rest) ≡ due
  unfolding found_at
  step false n at id ps found rest due low all is new small are more = more n low
  step true zero at id ps found rest due low all is new small are more = absurd (omega (arith, low))
  step true (suc n) at id ps found rest due low all is new small are more =
      let here : len - length (block_by true id ps ++ rest) ≡ at = omega (arith, all) in
      let some : 0 < length (block_by true id ps) = omega arith in
      ap (λ r. r >>= λ x. found_at len known n (record { id = x.0.0; start = len - length (block_by true id ps ++ rest); pieces = x.0.1 } ∷ found) x.1) (block_is known (ids_of found) id ps rest (is refl) new small are)
      ∙ ap (λ (place : ℕ). found_at len known n (record { id = id; start = place; pieces = ps } ∷ found) rest) here
      ∙ more n (omega (arith, low, some, length-append (block_by true id ps) rest))

  pub found_again : (n at : ℕ) (earlier : List ℕ) (found : List Found) (ss : List Stored) → length (blocks_text ss) ≤ n → at + length (blocks_text ss) ≡ len → AreBehind earlier found → HasOwnIds earlier (entries_of ss) → AllByRecursion (IsReady known) ss
      → found_at len known n found (blocks_text ss) ≡ Ok (blocks_at at found ss)
  unfolding found_at
  found_again n at earlier found [] low all behind own ready = refl
  found_again n at earlier found (s ∷ ss) low all behind own ready =
      step s.entry.has_rows n at s.entry.dump_id s.pieces found (blocks_text ss) (Ok (blocks_at at found (s ∷ ss))) low all ready.0.known (behind.none s.entry.dump_id own.0) ready.0.low ready.0.pieces
      (λ m less. found_again m (place_behind at s) (s.entry.dump_id ∷ earlier) (found_by s.entry.has_rows at s.entry.dump_id s.pieces found) ss less (omega (arith, all, length-append (block_text s) (blocks_text ss)))
      (still_behind s.entry.has_rows at s.entry.dump_id s.pieces earlier found behind) own.1 ready.1)

-- ---- the rows of the entries

head_rows : (at : ℕ) (earlier : List ℕ) (found : List Found) (s : Stored) (ss : List Stored) → AreBehind earlier found → HasOwnIds earlier (entries_of (s ∷ ss))
    → pieces_of s.entry.dump_id (blocks_at at found (s ∷ ss)) ≡ rows_of s
head_rows at earlier found s ss behind own =
    pieces_stay s.entry.dump_id (place_behind at s) (found_by s.entry.has_rows at s.entry.dump_id s.pieces found) ss (away earlier s ss own)
    ∙ own_pieces s.entry.has_rows at s.entry.dump_id s.pieces found (behind.none s.entry.dump_id own.0)

pub rows_again : (at : ℕ) (earlier : List ℕ) (found : List Found) (ss : List Stored) → AreBehind earlier found → HasOwnIds earlier (entries_of ss)
    → AllByRecursion (λ (s : Stored). pieces_of s.entry.dump_id (blocks_at at found ss) ≡ rows_of s) ss
rows_again at earlier found [] behind own = tt
rows_again at earlier found (s ∷ ss) behind own = (
  head_rows at earlier found s ss behind own,
  rows_again (place_behind at s) (s.entry.dump_id ∷ earlier) (found_by s.entry.has_rows at s.entry.dump_id s.pieces found) ss (still_behind s.entry.has_rows at s.entry.dump_id s.pieces earlier found behind) own.1,
)

-- ---- no entry is at fault

offset_by : (total : List Found) (place id at state offset : ℕ) (b t : Bool) → eqb state 2 ≡ t → (state ≡ 2 → (b ≡ true) × (offset ≡ at)) → (b ≡ true → block_at at total ≡ Some id) → offset_fault total place id (Place state offset) ≡ None
offset_by total place id at state offset b false e leads there = rw e refl
offset_by total place id at state offset b true e leads there =
    let told = leads (eqb-true state 2 e) in
    rw (e, told.1, there told.0, eq-eqb id id refl) refl

no_offset_fault : (total : List Found) (place id at : ℕ) (b : Bool) (x : Extra) → OffsetLeads at b x → (b ≡ true → block_at at total ≡ Some id) → offset_fault total place id x ≡ None
no_offset_fault total place id at b (Place state offset) leads there = offset_by total place id at state offset b (eqb state 2) refl leads there
no_offset_fault total place id at b (File name) leads there = refl

no_fault_by : (b : Bool) (total : List Found) (place id : ℕ) (ps : List (List ℕ)) (x : Extra) → pieces_of id total ≡ rows_by b ps → offset_fault total place id x ≡ None
    → (if b && is_none (pieces_of id total) then Some (faults.NoBlock id) else offset_fault total place id x) ≡ None
no_fault_by false total place id ps x rows none = none
no_fault_by true total place id ps x rows none = rw rows none

-- an entry at any place
abbrev NoFault : List Found → Stored → Type 0
NoFault total s = (place : ℕ) → entry_fault_in total place s.entry ≡ None

own_block_of : (at : ℕ) (found : List Found) (s : Stored) (ss : List Stored) → s.entry.has_rows ≡ true → block_at at (blocks_at at found (s ∷ ss)) ≡ Some s.entry.dump_id
own_block_of at found s ss is =
    block_stays at (place_behind at s) (found_by s.entry.has_rows at s.entry.dump_id s.pieces found) ss (by s.entry.has_rows is)
    ∙ own_block s.entry.has_rows at s.entry.dump_id s.pieces found is
  where
    by : (b : Bool) → b ≡ true → at < at + length (block_by b s.entry.dump_id s.pieces)
    by false e = absurd cc
    by true e = omega arith

pub no_fault : (at : ℕ) (earlier : List ℕ) (found : List Found) (ss : List Stored) → AreBehind earlier found → HasOwnIds earlier (entries_of ss) → OffsetsLead at ss
    → AllByRecursion (NoFault (blocks_at at found ss)) ss
no_fault at earlier found [] behind own leads = tt
no_fault at earlier found (s ∷ ss) behind own leads = (
  λ place. no_fault_by s.entry.has_rows (blocks_at at found (s ∷ ss)) place s.entry.dump_id s.pieces s.entry.extra (head_rows at earlier found s ss behind own)
      (no_offset_fault (blocks_at at found (s ∷ ss)) place s.entry.dump_id at s.entry.has_rows s.entry.extra leads.0 (own_block_of at found s ss)),
  no_fault (place_behind at s) (s.entry.dump_id ∷ earlier) (found_by s.entry.has_rows at s.entry.dump_id s.pieces found) ss (still_behind s.entry.has_rows at s.entry.dump_id s.pieces earlier found behind) own.1 leads.1,
)

pub first_is_none : (total : List Found) (len : ℕ) (ss : List Stored) (ls : List ℕ) → AllByRecursion (NoFault total) ss → first_fault total len (entries_of ss) ls ≡ None
unfolding first_fault
first_is_none total len [] ls none = refl
first_is_none total len (s ∷ ss) [] none = refl
first_is_none total len (s ∷ ss) (l ∷ ls) none = ap (λ o. or_else o (first_fault total len (entries_of ss) ls)) (none.0 (len - l - 8)) ∙ first_is_none total len ss ls none.1
