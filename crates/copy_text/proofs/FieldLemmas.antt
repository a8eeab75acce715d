-- The field of one piece, by what the code has found in it.
use Rattle.std.proofs.Common.{◌≡◌, ℕ, ◌+◌, ◌-◌, ◌<◌, ◌≤◌, true, false, ◌&&◌, cond, eqb, ltb, List, [], ◌∷◌, length, Option, Some, None, Ok, Err, refl, sym, subst, ◌∙◌, arith, inl, inr, ◌⊎◌}
use Rattle.std.specs.List.{position_or_len}
use Rattle.std.specs.Option.{option_eq}
use Rattle.std.specs.Str.{is_utf8, bytes_eq, chars}
use lib.Utf8.{encode}
use Rattle.std.proofs.lemmas.Bool.{ne_eqb, eqb-true, eqb-false, eq-eqb, lt-ltb, le-ltb, cond-true, cond-false, false_from_ne_true, not_from_true, not_from_false, and_from, and_left, and_right}
use Rattle.std.proofs.lemmas.Str.{IsUtf8-from_is_utf8, is_utf8-from_IsUtf8}
use Rattle.memchr.specs.Find.{Nowhere, NoneBefore, Passes, is_byte, IsFirstByte}
use Rattle.copy_text.specs.declared.fault.CopyFault.TheVariants.{RawReturn, BadUtf8, EndsInBackslash}
use Rattle.copy_text.specs.Marks.{carriage_return, null_mark}
use Rattle.copy_text.specs.Texts.{IsText}
use Rattle.copy_text.specs.Pieces.{ends_in_backslash, ends_escaping}
use Rattle.copy_text.specs.Escapes.{decode, decode_behind, escape}
use Rattle.copy_text.specs.Reading.{field_of}
use Rattle.copy_text.proofs.SearchLemmas.{byte_found, byte_absent}

-- the place of the first carriage return, or the length
abbrev pub return_at : List ℕ → ℕ
return_at piece = position_or_len (λ b. eqb b carriage_return) piece

return_found : (piece : List ℕ) (k : ℕ) → NoneBefore (Passes (is_byte carriage_return) piece) 0 (length piece) k → Passes (is_byte carriage_return) piece k → return_at piece ≡ k
return_found = byte_found carriage_return

return_absent : (piece : List ℕ) → Nowhere (Passes (is_byte carriage_return) piece) 0 (length piece) → return_at piece ≡ length piece
return_absent = byte_absent carriage_return

-- ---- the answers, one after another

pub field_null : (start : ℕ) → field_of start null_mark ≡ Ok None
unfolding field_of is_utf8 decode_behind escape ends_escaping chars encode
field_null start = refl

module _ (start : ℕ) (piece : List ℕ) where
  pub field_return_first : return_at piece < length piece → return_at piece ≡ 0 → field_of start piece ≡ Err (RawReturn start)
  unfolding field_of
  field_return_first lt first = cond-true _ _ _ (and_from _ _ (lt-ltb _ _ lt) (eq-eqb _ _ first))

  not_first : (return_at piece ≡ 0 → ⊥) ⊎ (length piece ≤ return_at piece) → (ltb (return_at piece) (length piece) && eqb (return_at piece) 0) ≡ false
  not_first (inl later) = and_right _ _ (ne_eqb _ _ later)
  not_first (inr absent) = and_left _ _ (le-ltb _ _ absent)

  pub field_bad_utf8 : (return_at piece ≡ 0 → ⊥) ⊎ (length piece ≤ return_at piece) → is_utf8 (decode piece) ≡ false → field_of start piece ≡ Err (BadUtf8 start)
  unfolding field_of
  field_bad_utf8 later bad = cond-false _ _ _ (not_first later) ∙ cond-true _ _ _ (not_from_false _ bad)

  pub field_return_later : return_at piece < length piece → (return_at piece ≡ 0 → ⊥) → is_utf8 (decode piece) ≡ true → field_of start piece ≡ Err (RawReturn (start + return_at piece))
  unfolding field_of
  field_return_later lt later utf8 = cond-false _ _ _ (not_first (inl later)) ∙ cond-false _ _ _ (not_from_true _ utf8) ∙ cond-true _ _ _ (lt-ltb _ _ lt)

  no_return : length piece ≤ return_at piece → is_utf8 (decode piece) ≡ true
      → field_of start piece ≡ cond (ends_in_backslash piece) (Err (EndsInBackslash (start + length piece - 1))) (cond (bytes_eq piece null_mark) (Ok None) (Ok (Some (decode piece))))
  unfolding field_of
  no_return absent utf8 = cond-false _ _ _ (not_first (inr absent)) ∙ cond-false _ _ _ (not_from_true _ utf8) ∙ cond-false _ _ _ (le-ltb _ _ absent)

  pub field_open : length piece ≤ return_at piece → is_utf8 (decode piece) ≡ true → ends_in_backslash piece ≡ true → field_of start piece ≡ Err (EndsInBackslash (start + length piece - 1))
  field_open absent utf8 ended = no_return absent utf8 ∙ cond-true _ _ _ ended

  pub field_text : length piece ≤ return_at piece → is_utf8 (decode piece) ≡ true → ends_in_backslash piece ≡ false → bytes_eq piece null_mark ≡ false → field_of start piece ≡ Ok (Some (decode piece))
  field_text absent utf8 closed other = no_return absent utf8 ∙ cond-false _ _ _ closed ∙ cond-false _ _ _ other

-- a piece that ends in a backslash isn't empty
pub ends_some : (piece : List ℕ) → ends_in_backslash piece ≡ true → 0 < length piece
unfolding ends_escaping
ends_some [] ended = absurd cc
ends_some (b ∷ rest) ended = omega arith

-- ---- by the answer of the search for a carriage return

module _ (piece : List ℕ) where
  pub at_first : (r : Option ℕ) → IsFirstByte (is_byte carriage_return) piece r → option_eq eqb r (Some 0) ≡ true → (return_at piece < length piece) × (return_at piece ≡ 0)
  at_first None found is = absurd cc
  at_first (Some k) found is =
      let place = return_found piece k found.0 found.1 in
      let first : k ≡ 0 = eqb-true k 0 is in
      (omega (arith, found.0.high), place ∙ first)

  pub not_at_first : (r : Option ℕ) → IsFirstByte (is_byte carriage_return) piece r → option_eq eqb r (Some 0) ≡ false → (return_at piece ≡ 0 → ⊥) ⊎ (length piece ≤ return_at piece)
  not_at_first None found is = inr (omega (arith, return_absent piece found))
  not_at_first (Some k) found is =
      let place = return_found piece k found.0 found.1 in
      inl (λ first. eqb-false k 0 is (sym place ∙ first))

  pub found_later : (r : Option ℕ) (k : ℕ) → IsFirstByte (is_byte carriage_return) piece r → option_eq eqb r (Some 0) ≡ false → r ≡ Some k
      → (return_at piece ≡ k) × (return_at piece < length piece) × (return_at piece ≡ 0 → ⊥)
  found_later None k found other is = absurd cc
  found_later (Some j) k found other is =
      let place = return_found piece j found.0 found.1 in
      let same : j ≡ k = cc in
      (place ∙ same, omega (arith, found.0.high), λ first. eqb-false j 0 other (sym place ∙ first))

  pub absent_at : (r : Option ℕ) → IsFirstByte (is_byte carriage_return) piece r → r ≡ None → length piece ≤ return_at piece
  absent_at None found is = omega (arith, return_absent piece found)
  absent_at (Some k) found is = absurd cc

-- bytes of which no text can be made
pub no_text : (bytes piece : List ℕ) → bytes ≡ decode piece → ¬ (IsText bytes) → is_utf8 (decode piece) ≡ false
no_text bytes piece is none = false_from_ne_true _ (λ utf8. none (subst IsText (sym is) (IsUtf8-from_is_utf8 (decode piece) utf8)))

pub some_text : (bytes piece : List ℕ) → bytes ≡ decode piece → IsText bytes → is_utf8 (decode piece) ≡ true
some_text bytes piece is text = is_utf8-from_IsUtf8 (decode piece) (subst IsText is text)
