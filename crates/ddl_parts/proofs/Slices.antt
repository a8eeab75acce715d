-- Slices of lists side by side, and that the text of a token is UTF-8.
use Rattle.ddl_parts.proofs.Common.{◌≡◌, ℕ, ◌+◌, ◌-◌, ◌≤◌, true, List, ◌++◌, length, take, drop, Some, None, Ok, refl, sym, ap, subst, ◌∙◌, arith, slice_range, IsUtf8, is_utf8, IsUtf8-append, IsUtf8-nil, IsUtf8-from_is_utf8, is_utf8-from_IsUtf8, and_from, Token, next_token_of, spelling, Between, gap, IsNext, next_found, piece_word, lexeme_of, is_sound}
use Rattle.std.proofs.Common.{drop-drop, take-add}
use Rattle.sql_lex.specs.Answers.{nothing}

-- ---- slices

pub drop_twice : {X : Type 0} (n m : ℕ) (xs : List X) → drop n (drop m xs) ≡ drop (m + n) xs
drop_twice n m xs = drop-drop n m xs

-- a slice and the one behind it
pub seam : (text : List ℕ) (a b c : ℕ) → a ≤ b → b ≤ c → slice_range text a b ++ slice_range text b c ≡ slice_range text a c
seam text a b c low high =
    let place : a + (b - a) ≡ b = omega arith in
    let size : c - a ≡ (b - a) + (c - b) = omega arith in
    ap (λ n. take (b - a) (drop a text) ++ take (c - b) (drop n text)) (sym place) ∙ rw (size, take-add, drop-drop) refl

pub between_low : (text : List ℕ) (at to : ℕ) → Between text at to → at ≤ to
between_low text _ _ (nothing at) = omega arith
between_low text _ _ (gap at end to s more) = omega (arith, s.piece.ends, between_low text end to more)

gap_utf8 : (text : List ℕ) (at to : ℕ) → Between text at to → IsUtf8 (slice_range text at to)
gap_utf8 text _ _ (nothing at) = subst (λ n. IsUtf8 (take n (drop at text))) (let e : 0 ≡ at - at = omega arith in e) IsUtf8-nil
gap_utf8 text _ _ (gap at end to s more) =
    let front : IsUtf8 (slice_range text at end) = subst IsUtf8 (sym (piece_word text None at end s.piece)) (IsUtf8-from_is_utf8 s.piece.word s.utf8) in
    subst IsUtf8 (seam text at end to (omega (arith, s.piece.ends)) (between_low text end to more)) (IsUtf8-append (slice_range text at end) (slice_range text end to) front (gap_utf8 text end to more))

pub token_sound : (text : List ℕ) (at : ℕ) (t : Token) → at ≤ length text → next_token_of text at ≡ Ok (Some t) → is_sound (lexeme_of text (record { from = at; token = t })) ≡ true
unfolding is_sound spelling
token_sound text at t le e =
    let found : IsNext text at (Ok (Some t)) = subst (IsNext text at) e (next_found text at le) in
    and_from (is_utf8 (slice_range text at t.start)) (is_utf8 (slice_range text t.start t.end)) (is_utf8-from_IsUtf8 _ (gap_utf8 text at t.start found.0))
    (ap is_utf8 (piece_word text (Some t.kind) t.start t.end found.2.piece) ∙ found.2.utf8)
