-- How many notes there are, where one more comes.
use Rattle.std.proofs.Common.{◌≡◌, ℕ, zero, suc, ◌+◌, ◌<◌, ◌≤◌, List, [], ◌∷◌, ◌++◌, length, replicate, refl, ap, sym, ◌∙◌, length-append, arith}
use Rattle.std.specs.Global.{Vec}
use Rattle.restore_plan.specs.declared.status.Note.{Note}
use Rattle.restore_board.specs.Notes.{all_notes, lists_in, noted_at}
use Rattle.restore_board.specs.Rooms.{HasRoom}

pub none-noted : (many : ℕ) → all_notes (replicate many []) ≡ []
none-noted zero = refl
none-noted (suc many) = none-noted many

pub one-noted : (lists : List (List Note)) (i : ℕ) (note : Note) → i < length lists → length (all_notes (noted_at lists i (note ∷ []))) ≡ length (all_notes lists) + 1
one-noted [] i note less = absurd (omega arith)
one-noted (ns ∷ others) zero note less =
    let whole : length ((ns ++ note ∷ []) ++ all_notes others) ≡ length (ns ++ note ∷ []) + length (all_notes others) = length-append (ns ++ note ∷ []) (all_notes others) in
    let one : length (ns ++ note ∷ []) ≡ length ns + 1 = length-append ns (note ∷ []) in
    let before : length (ns ++ all_notes others) ≡ length ns + length (all_notes others) = length-append ns (all_notes others) in
    omega arith
one-noted (ns ∷ others) (suc i) note less =
    let rest = one-noted others i note (omega arith) in
    let now : length (ns ++ all_notes (noted_at others i (note ∷ []))) ≡ length ns + length (all_notes (noted_at others i (note ∷ []))) = length-append ns (all_notes (noted_at others i (note ∷ []))) in
    let before : length (ns ++ all_notes others) ≡ length ns + length (all_notes others) = length-append ns (all_notes others) in
    omega arith

-- ---- what the notes keep

pub room-same : (lists lists' : List (Vec Note)) (many : ℕ) (all all' : List Note) (room room' : ℕ) → HasRoom lists many all room → lists_in lists' ≡ lists_in lists → all' ≡ all → room ≤ room' → HasRoom lists' many all' room'
room-same lists lists' many all all' room room' h same ea more =
    let fits = h.fits in
    record {
      counted = h.counted ∙ ap (λ (l : List (List Note)). length (all_notes l)) (sym same);
      empty = ea ∙ h.empty;
      fits = omega arith;
    }

pub room-one : (lists lists' : List (Vec Note)) (many many' : ℕ) (all all' : List Note) (room room' : ℕ) (entry : ℕ) (note : Note) → HasRoom lists many all room → entry < length (lists_in lists) → lists_in lists' ≡ noted_at (lists_in lists) entry (note ∷ []) → many' ≡ many + 1 → all' ≡ all → length all' + (many + 1) ≤ room' → HasRoom lists' many' all' room'
room-one lists lists' many many' all all' room room' entry note h within set_in em ea enough =
    let one = one-noted (lists_in lists) entry note within in
    let was = h.counted in
    record {
      counted = em ∙ ap (λ (n : ℕ). n + 1) was ∙ sym one ∙ ap (λ (l : List (List Note)). length (all_notes l)) (sym set_in);
      empty = ea ∙ h.empty;
      fits = omega arith;
    }

pub room-none : (lists : List (Vec Note)) (many : ℕ) (all : List Note) (room : ℕ) → lists_in lists ≡ replicate many [] → all ≡ [] → HasRoom lists 0 all room
room-none lists many all room none ea = record {
  counted = sym (ap (λ (l : List (List Note)). length (all_notes l)) none ∙ ap length (none-noted many));
  empty = ea;
  fits = omega arith;
}

-- ---- notes that are put behind others

-- there is room for one more of those that are left
pub room-left : (had rest before whole more : List Note) (note : Note) (room : ℕ) → had ++ rest ≡ before ++ whole → rest ≡ note ∷ more → length before + length whole ≤ room → length had < room
room-left had rest before whole more note room all is enough =
    let both : length had + length rest ≡ length before + length whole = sym (length-append had rest) ∙ ap length all ∙ length-append before whole in
    let one : length rest ≡ suc (length more) = ap length is in
    omega arith
