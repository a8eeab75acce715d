-- Tokens that are collected one by one: those so far and those behind are the statement's.
use Rattle.ddl_pieces.proofs.Common.{◌≡◌, ℕ, suc, ◌+◌, ◌-◌, ◌<◌, ◌≤◌, true, false, List, [], ◌∷◌, ◌++◌, length, Option, Some, None, Result, Ok, Err, refl, ap, ◌∙◌, arith, append_assoc, append-nil, and_parts, and_from, lt-ltb, Token, LexFault, next_token_of, Piece, is_sign_kind, are_joined, are_joined_from, are_sound, Collected, preceded, collected_by, collected_within, collected}
use Rattle.ddl_pieces.proofs.{Joined.Lies, RunSlices.sound_one_more}
use Rattle.ddl_parts.proofs.{Basics.some_left, Slices.token_sound}

-- tokens so far, before those behind
abbrev pub behind : List Piece → Collected → Collected
behind front c = record c { pieces = front ++ c.pieces }

-- more is collected behind a place
pub record IsLeft (whole : Collected) (text : List ℕ) (front : List Piece) (at : ℕ) : Type 0 where
  pub fuel : ℕ
  pub enough : length text - at ≤ fuel
  pub same : whole ≡ behind front (collected_within (suc fuel) text at)

pub all_left : (text : List ℕ) (from : ℕ) → IsLeft (collected text from) text [] from
unfolding collected
all_left text from = record { fuel = length text; enough = omega arith; same = ap (λ n. collected_within n text from) (let e : length text + 1 ≡ suc (length text) = omega arith in e) }

-- how it goes on, by the next token
turn : (whole : Collected) (text : List ℕ) (front : List Piece) (at : ℕ) (l : IsLeft whole text front at) (r : Result (Option Token) LexFault) → next_token_of text at ≡ r → whole ≡ behind front (collected_by (collected_within l.fuel text) at r)
unfolding collected_within
turn whole text front at l r e = l.same ∙ ap (λ r. behind front (collected_by (collected_within l.fuel text) at r)) e

abbrev ended : List Piece → ℕ → Option LexFault → Collected
ended front at fault = record { pieces = front; end = at; fault = fault }

pub at_end : (whole : Collected) (text : List ℕ) (front : List Piece) (at : ℕ) → IsLeft whole text front at → next_token_of text at ≡ Ok None → whole ≡ ended front at None
at_end whole text front at left e = turn whole text front at left (Ok None) e ∙ ap (λ ps. ended ps at None) (append-nil front)

pub at_fault : (whole : Collected) (text : List ℕ) (front : List Piece) (at : ℕ) (fault : LexFault) → IsLeft whole text front at → next_token_of text at ≡ Err fault → whole ≡ ended front at (Some fault)
at_fault whole text front at fault left e = turn whole text front at left (Err fault) e ∙ ap (λ ps. ended ps at (Some fault)) (append-nil front)

abbrev pub piece : ℕ → Token → Piece
piece at t = record { from = at; token = t }

pub at_semicolon : (whole : Collected) (text : List ℕ) (front : List Piece) (at : ℕ) (t : Token) → IsLeft whole text front at → next_token_of text at ≡ Ok (Some t) → is_sign_kind 59 t.kind ≡ true → whole ≡ ended (front ++ piece at t ∷ []) t.end None
at_semicolon whole text front at t left e b = turn whole text front at left (Ok (Some t)) e ∙ rw b refl

pub at_token : (whole : Collected) (text : List ℕ) (front : List Piece) (at : ℕ) (t : Token) → IsLeft whole text front at → next_token_of text at ≡ Ok (Some t) → is_sign_kind 59 t.kind ≡ false → Lies (length text) (piece at t) → IsLeft whole text (front ++ piece at t ∷ []) t.end
at_token whole text front at t left e b lies =
    let k = some_left left.fuel (omega (arith, left.enough, lies)) in
    let step : whole ≡ behind front (preceded (piece at t) (collected_within left.fuel text t.end)) = turn whole text front at left (Ok (Some t)) e ∙ rw b refl in
    record { fuel = k.0; enough = omega (arith, left.enough, lies, k.1); same = rw append_assoc (step ∙ ap (λ n. behind front (preceded (piece at t) (collected_within n text t.end))) k.1) }

-- ---- joined tokens

abbrev pub end_of : ℕ → List Piece → ℕ
end_of at [] = at
end_of at (p ∷ ps) = end_of p.token.end ps

joined_more : (limit at : ℕ) (ps : List Piece) (p : Piece) → are_joined_from limit at ps ≡ true → end_of at ps ≡ p.from → Lies limit p → (are_joined_from limit at (ps ++ p ∷ []) ≡ true) × (end_of at (ps ++ p ∷ []) ≡ p.token.end)
unfolding are_joined_from
joined_more limit at [] p e is lies = (grind (arith, and_from, lt-ltb, and_parts), refl)
joined_more limit at (q ∷ ps) p e is lies = let h = and_parts _ _ e in let k = joined_more limit q.token.end ps p h.1 is lies in (and_from _ _ h.0 k.0, k.1)

pub joined_whole : (limit at : ℕ) (ps : List Piece) → are_joined_from limit at ps ≡ true → are_joined limit ps ≡ true
unfolding are_joined are_joined_from
joined_whole limit at ps e = grind arith

-- tokens from a place up to another, joined and sound
pub record AreSoFar (text : List ℕ) (from at : ℕ) (ps : List Piece) : Type 0 where
  pub joined : are_joined_from (length text) from ps ≡ true
  pub ends : end_of from ps ≡ at
  pub sound : are_sound text ps ≡ true
  pub low : from ≤ at
  pub forward : 0 < length ps → from < at
  pub high : at ≤ length text

pub none_so_far : (text : List ℕ) (from : ℕ) → from ≤ length text → AreSoFar text from from []
unfolding are_joined_from are_sound
none_so_far text from le = record { joined = refl; ends = refl; sound = refl; low = omega arith; forward = λ some. absurd (omega arith); high = le }

pub one_more : (text : List ℕ) (from at : ℕ) (ps : List Piece) (t : Token) → AreSoFar text from at ps → next_token_of text at ≡ Ok (Some t) → Lies (length text) (piece at t) → AreSoFar text from t.end (ps ++ piece at t ∷ [])
one_more text from at ps t s e lies =
    let j = joined_more (length text) from ps (piece at t) s.joined s.ends lies in
    let sound = sound_one_more text ps (piece at t) s.sound (token_sound text at t s.high e) in
    record { joined = j.0; ends = j.1; sound = sound; low = omega (arith, s.low, lies); forward = λ some. omega (arith, s.low, lies); high = lies.2 }
