-- Which dump ids and places the blocks that are written have.
use Rattle.std.proofs.Common.{◌≡◌, ℕ, ◌<◌, Bool, true, false, List, [], ◌∷◌, Some, None, refl, ◌∙◌, arith, eqb, ◌^◌}
use Rattle.std.specs.Prelude.{◌||◌, if◌then◌else◌}
use Rattle.std.specs.List.{AllByRecursion}
use Rattle.std.proofs.lemmas.Bool.{eq-eqb, ne_eqb}
use Rattle.toc_table.specs.Ids.{is_among}
use Rattle.toc_table.specs.Tables.{ids_with_rows}
use Rattle.toc_table.specs.Writing.{HasOwnIds, EntryFits}
use Rattle.fmt_custom.specs.Customs.{Found, ids_of, pieces_of, block_at}
use Rattle.fmt_custom.specs.Stored.{Stored, entries_of, place_behind, found_by, blocks_at, rows_by, IsPiece}

-- ---- ids among others

neither : (a b : Bool) → (a || b) ≡ false → (a ≡ false) × (b ≡ false)
neither false false e = (refl, refl)
neither false true e = absurd cc
neither true b e = absurd cc

or_true : (a b : Bool) → b ≡ true → (a || b) ≡ true
or_true false b e = e
or_true true b e = refl

or_false : (a b : Bool) → a ≡ false → b ≡ false → (a || b) ≡ false
or_false a b first second = rw first second

pub here : (id : ℕ) (ids : List ℕ) → is_among (id ∷ ids) id ≡ true
here id ids = rw (eq-eqb id id refl) refl

-- an id that is there is no id that isn't
differs : (ids : List ℕ) (id other : ℕ) → is_among ids id ≡ true → is_among ids other ≡ false → eqb other id ≡ false
differs ids id other there new = ne_eqb other id (λ same. absurd (let e = rw same at new in cc))

-- ---- the blocks so far

-- none has an id that no entry so far has
pub record AreBehind (earlier : List ℕ) (found : List Found) : Type 0 where
  pub none : (k : ℕ) → is_among earlier k ≡ false → is_among (ids_of found) k ≡ false

pub still_behind : (b : Bool) (at id : ℕ) (ps : List (List ℕ)) (earlier : List ℕ) (found : List Found) → AreBehind earlier found → AreBehind (id ∷ earlier) (found_by b at id ps found)
still_behind false at id ps earlier found are = record { none = λ k new. are.none k (neither (eqb id k) (is_among earlier k) new).1 }
still_behind true at id ps earlier found are = record {
  none = λ k new. let parts = neither (eqb id k) (is_among earlier k) new in or_false (eqb id k) (is_among (ids_of found) k) parts.0 (are.none k parts.1);
}

-- ---- the entries behind an entry

-- none of them has this id
abbrev pub Away : ℕ → List Stored → Type 0
Away id ss = AllByRecursion (λ (s : Stored). eqb s.entry.dump_id id ≡ false) ss

away_among : (earlier : List ℕ) (id : ℕ) (ss : List Stored) → is_among earlier id ≡ true → HasOwnIds earlier (entries_of ss) → Away id ss
away_among earlier id [] there own = tt
away_among earlier id (s ∷ ss) there own =
    (differs earlier id s.entry.dump_id there own.0, away_among (s.entry.dump_id ∷ earlier) id ss (or_true (eqb s.entry.dump_id id) (is_among earlier id) there) own.1)

pub away : (earlier : List ℕ) (s : Stored) (ss : List Stored) → HasOwnIds earlier (entries_of (s ∷ ss)) → Away s.entry.dump_id ss
away earlier s ss own = away_among (s.entry.dump_id ∷ earlier) s.entry.dump_id ss (here s.entry.dump_id earlier) own.1

pieces_by : (b : Bool) (id at other : ℕ) (ps : List (List ℕ)) (found : List Found) → eqb other id ≡ false → pieces_of id (found_by b at other ps found) ≡ pieces_of id found
pieces_by false id at other ps found e = refl
pieces_by true id at other ps found e = rw e refl

-- blocks of other ids change nothing of one
pub pieces_stay : (id at : ℕ) (found : List Found) (ss : List Stored) → Away id ss → pieces_of id (blocks_at at found ss) ≡ pieces_of id found
pieces_stay id at found [] others = refl
pieces_stay id at found (s ∷ ss) others =
    pieces_stay id (place_behind at s) (found_by s.entry.has_rows at s.entry.dump_id s.pieces found) ss others.1
    ∙ pieces_by s.entry.has_rows id at s.entry.dump_id s.pieces found others.0

block_by_place : (b : Bool) (place at id : ℕ) (ps : List (List ℕ)) (found : List Found) → place < at → block_at place (found_by b at id ps found) ≡ block_at place found
block_by_place false place at id ps found low = refl
block_by_place true place at id ps found low = let other : eqb at place ≡ false = ne_eqb at place (λ same. absurd (omega (arith, same, low))) in rw other refl

-- blocks of later places neither
pub block_stays : (place at : ℕ) (found : List Found) (ss : List Stored) → place < at → block_at place (blocks_at at found ss) ≡ block_at place found
block_stays place at found [] low = refl
block_stays place at found (s ∷ ss) low =
    block_stays place (place_behind at s) (found_by s.entry.has_rows at s.entry.dump_id s.pieces found) ss (omega (arith, low))
    ∙ block_by_place s.entry.has_rows place at s.entry.dump_id s.pieces found low

-- ---- the pieces of an id

no_pieces : (id : ℕ) (found : List Found) → is_among (ids_of found) id ≡ false → pieces_of id found ≡ None
no_pieces id [] none = refl
no_pieces id (f ∷ found) none = let parts = neither (eqb f.id id) (is_among (ids_of found) id) none in rw parts.0 (no_pieces id found parts.1)

pub own_pieces : (b : Bool) (at id : ℕ) (ps : List (List ℕ)) (found : List Found) → is_among (ids_of found) id ≡ false → pieces_of id (found_by b at id ps found) ≡ rows_by b ps
own_pieces false at id ps found new = no_pieces id found new
own_pieces true at id ps found new = rw (eq-eqb id id refl) refl

pub own_block : (b : Bool) (at id : ℕ) (ps : List (List ℕ)) (found : List Found) → b ≡ true → block_at at (found_by b at id ps found) ≡ Some id
own_block false at id ps found is = absurd cc
own_block true at id ps found is = rw (eq-eqb at at refl) refl

-- ---- entries with rows

-- what has to be known of an entry for its block
pub record IsReady (ids : List ℕ) (s : Stored) : Type 0 where
  pub known : s.entry.has_rows ≡ true → is_among ids s.entry.dump_id ≡ true
  pub low : s.entry.dump_id < 2 ^ 32
  pub pieces : AllByRecursion IsPiece s.pieces

abbrev met_by : Bool → ℕ → List ℕ → List ℕ
met_by b id met = if b then id ∷ met else met

still_met : (b : Bool) (id : ℕ) (met : List ℕ) (k : ℕ) → is_among met k ≡ true → is_among (met_by b id met) k ≡ true
still_met false id met k there = there
still_met true id met k there = or_true (eqb id k) (is_among met k) there

met_here : (b : Bool) (id : ℕ) (met : List ℕ) → b ≡ true → is_among (met_by b id met) id ≡ true
met_here false id met is = absurd cc
met_here true id met is = here id met

known_still : (met : List ℕ) (ss : List Stored) (k : ℕ) → is_among met k ≡ true → is_among (ids_with_rows met (entries_of ss)) k ≡ true
known_still met [] k there = there
known_still met (s ∷ ss) k there = known_still (met_by s.entry.has_rows s.entry.dump_id met) ss k (still_met s.entry.has_rows s.entry.dump_id met k there)

pub all_ready : (met : List ℕ) (ss : List Stored) → AllByRecursion (EntryFits false) (entries_of ss) → AllByRecursion (λ (s : Stored). AllByRecursion IsPiece s.pieces) ss
    → AllByRecursion (IsReady (ids_with_rows met (entries_of ss))) ss
all_ready met [] fit are = tt
all_ready met (s ∷ ss) fit are =
    let more = met_by s.entry.has_rows s.entry.dump_id met in (
      record {
        known = λ is. known_still more ss s.entry.dump_id (met_here s.entry.has_rows s.entry.dump_id met is);
        low = fit.0.value.dump_id;
        pieces = are.0;
      },
      all_ready more ss fit.1 are.1,
    )
