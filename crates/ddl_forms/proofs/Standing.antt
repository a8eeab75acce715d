-- Tokens that are read as they are wherever they stand: the tokens of a text that is made of them are they.
use Rattle.ddl_forms.proofs.Common.{◌≡◌, ℕ, zero, suc, ◌+◌, ◌<◌, ◌≤◌, Bool, true, false, not, ◌||◌, List, [], ◌∷◌, ◌++◌, length, length-append, append_assoc, append-nil, Some, None, Ok, refl, sym, ap, ◌∙◌, arith, ◌==◌, ◌⊎◌, inl, inr, slice_range, take_at, drop_at, and_parts, not-true, TokenKind, next_token_of, next_at_end, spelling, IsTokenAt, Lexeme, spelled, is_sign, lexeme_of, lexemes, Collected, collected, collected_within, semicolon}
use Rattle.ddl_forms.proofs.Closing.{ends_with, only_last}

-- ---- what stands

-- what may follow tokens: nothing, or a byte that goes on with none
abbrev pub is_safe_byte : ℕ → Bool
is_safe_byte b = b == 10 || b == 32 || b == 41 || b == 44 || b == 59

abbrev pub is_safe : List ℕ → Bool
is_safe [] = true
is_safe (b ∷ rest) = is_safe_byte b

-- before these bytes, wherever it stands, it is passed over
abbrev pub GapStands : List ℕ → List ℕ → Type 0
GapStands gap behind = (front after : List ℕ) → is_safe after ≡ true → next_token_of (front ++ (gap ++ (behind ++ after))) (length front) ≡ next_token_of (front ++ (gap ++ (behind ++ after))) (length front + length gap)

-- before these bytes, wherever it stands, it is read as a token of this kind
abbrev pub TokenStands : TokenKind → List ℕ → List ℕ → Type 0
TokenStands kind word behind = (front after : List ℕ) → is_safe after ≡ true → IsTokenAt (front ++ (word ++ (behind ++ after))) (length front) kind word

pub record Stands (t : Lexeme) (behind : List ℕ) : Type 0 where
  pub gap : GapStands t.gap (t.word ++ behind)
  pub token : TokenStands t.kind t.word behind
  pub some : 0 < length t.word

abbrev pub Stood : List Lexeme → Type 0
Stood [] = Unit {0}
Stood (t ∷ ts) = Stands t (spelled ts) × Stood ts

-- the same tokens from a place of a text on
abbrev pub placed : ℕ → List Lexeme → List Lexeme
placed at [] = []
placed at (t ∷ ts) = record { gap = t.gap; kind = t.kind; word = t.word; start = at + length t.gap } ∷ placed (at + length t.gap + length t.word) ts

-- ---- one token

record Next (text : List ℕ) (at : ℕ) (t : Lexeme) : Type 0 where
  found : next_token_of text at ≡ Ok (Some (record { kind = t.kind; start = at + length t.gap; end = at + length t.gap + length t.word }))
  same : lexeme_of text (record { from = at; token = record { kind = t.kind; start = at + length t.gap; end = at + length t.gap + length t.word } }) ≡ record { gap = t.gap; kind = t.kind; word = t.word; start = at + length t.gap }

next_stands : (text front : List ℕ) (t : Lexeme) (behind after : List ℕ) → text ≡ front ++ (t.gap ++ (t.word ++ (behind ++ after))) → Stands t behind → is_safe after ≡ true → Next text (length front) t
unfolding spelling
next_stands text front t behind after e s safe =
    let passed = simp append_assoc at (s.gap front after safe) in
    let here = simp (append_assoc, length-append) at (s.token (front ++ t.gap) after safe).found in
    let gap_is : slice_range text (length front) (length front + length t.gap) ≡ t.gap = rw e (grind (arith, drop_at, take_at)) in
    let word_is : slice_range text (length front + length t.gap) (length front + length t.gap + length t.word) ≡ t.word = rw (e, ← append_assoc front t.gap (t.word ++ (behind ++ after))) (grind (arith, drop_at, take_at, length-append)) in
    record { found = rw e (passed ∙ here); same = cc (gap_is, word_is) }

-- ---- all of them

abbrev pub NoSemicolon : List Lexeme → Type 0
NoSemicolon [] = Unit {0}
NoSemicolon (t ∷ ts) = (semicolon t ≡ false) × NoSemicolon ts

-- tokens that are collected from a place on
pub record IsCollected (text : List ℕ) (at : ℕ) (ts : List Lexeme) (c : Collected) : Type 0 where
  pub tokens : lexemes text c.pieces ≡ placed at ts
  pub end : c.end ≡ at + length (spelled ts)
  pub fault : c.fault ≡ None

sizes : (t : Lexeme) (ts : List Lexeme) → length (spelled (t ∷ ts)) ≡ length t.gap + length t.word + length (spelled ts)
sizes t ts = omega (arith, length-append t.gap (t.word ++ spelled ts), length-append t.word (spelled ts))

-- no text has more tokens than bytes
few : (ts : List Lexeme) → Stood ts → length ts ≤ length (spelled ts)
few [] s = omega arith
few (t ∷ ts) s = omega (arith, sizes t ts, few ts s.1, s.0.some)

-- the first semicolon is the last token, or there is none and the text ends
abbrev Last : List Lexeme → List ℕ → Type 0
Last [] after = after ≡ []
Last (t ∷ ts) after = ((semicolon t ≡ true) × (ts ≡ [])) ⊎ ((semicolon t ≡ false) × Last ts after)

one_more : (n : ℕ) (text front : List ℕ) (t : Lexeme) (ts : List Lexeme) → Next text (length front) t → semicolon t ≡ false → IsCollected text (length (front ++ (t.gap ++ t.word))) ts (collected_within n text (length (front ++ (t.gap ++ t.word))))
    → IsCollected text (length front) (t ∷ ts) (collected_within (suc n) text (length front))
unfolding collected_within is_sign
one_more n text front t ts next none later =
    let place : length (front ++ (t.gap ++ t.word)) ≡ length front + length t.gap + length t.word = omega (arith, length-append front (t.gap ++ t.word), length-append t.gap t.word) in
    let behind = rw place at later in
    rw (next.found, none) (record { tokens = cc (next.same, behind.tokens); end = omega (arith, sizes t ts, behind.end); fault = behind.fault })

are_collected : (n : ℕ) (text front : List ℕ) (ts : List Lexeme) (after : List ℕ) → text ≡ front ++ (spelled ts ++ after) → Stood ts → is_safe after ≡ true → Last ts after → length ts ≤ n → IsCollected text (length front) ts (collected_within n text (length front))
unfolding collected_within is_sign
are_collected zero text front [] after e s safe last le = record { tokens = refl; end = omega arith; fault = refl }
are_collected (suc n) text front [] after e s safe last le = rw (e, last, append-nil, next_at_end) (record { tokens = refl; end = omega arith; fault = refl })
are_collected zero text front (t ∷ ts) after e s safe last le = absurd (omega arith)
are_collected (suc n) text front (t ∷ ts) after e s safe last le =
    let here : text ≡ front ++ (t.gap ++ (t.word ++ (spelled ts ++ after))) = e ∙ simp append_assoc in
    let next = next_stands text front t (spelled ts) after here s.0 safe in
    elim last [
      | inl h ↦ rw (next.found, h.0, h.1) (record { tokens = cc next.same; end = omega (arith, sizes t []); fault = refl })
      | inr h ↦ one_more n text front t ts next h.0 (are_collected n text (front ++ (t.gap ++ t.word)) ts after (here ∙ simp append_assoc) s.1 safe h.1 (omega arith))
    ]

all_collected : (text front : List ℕ) (ts : List Lexeme) (after : List ℕ) → text ≡ front ++ (spelled ts ++ after) → Stood ts → is_safe after ≡ true → Last ts after → IsCollected text (length front) ts (collected text (length front))
unfolding collected
all_collected text front ts after e s safe last =
    are_collected (length text + 1) text front ts after e s safe last (omega (arith, few ts s, ap (λ (x : List ℕ). length x) e, length-append front (spelled ts ++ after), length-append (spelled ts) after))

pub collects : (text front : List ℕ) (ts : List Lexeme) (after : List ℕ) → text ≡ front ++ (spelled ts ++ after) → Stood ts → is_safe after ≡ true → only_last semicolon ts ≡ true → ends_with semicolon ts ≡ true
    → IsCollected text (length front) ts (collected text (length front))
collects text front ts after e s safe last ends = all_collected text front ts after e s safe (by ts last ends)
  where
    by : (us : List Lexeme) → only_last semicolon us ≡ true → ends_with semicolon us ≡ true → Last us after
    by [] last ends = absurd cc
    by (t ∷ []) last ends = inl (ends, refl)
    by (t ∷ u ∷ us) last ends = let h = and_parts (not (semicolon t)) (only_last semicolon (u ∷ us)) last in inr (not-true (semicolon t) h.0, by (u ∷ us) h.1 ends)

-- tokens without a semicolon, up to the end of the text
pub collects_all : (text : List ℕ) (ts : List Lexeme) → text ≡ spelled ts → Stood ts → NoSemicolon ts → IsCollected text 0 ts (collected text 0)
collects_all text ts e s plain = all_collected text [] ts [] (e ∙ sym (append-nil (spelled ts))) s refl (by ts plain)
  where
    by : (us : List Lexeme) → NoSemicolon us → Last us []
    by [] h = refl
    by (u ∷ us) h = inr (h.0, by us h.1)
