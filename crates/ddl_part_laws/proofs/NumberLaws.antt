-- Whole numbers have the laws of a part.
use Rattle.ddl_part_laws.proofs.Common.{◌≡◌, ℕ, ◌+◌, ◌<◌, ◌^◌, pos, false, List, [], ◌∷◌, Some, None, option_and_then, refl, sym, ap, ◌∙◌, arith, lt-ltb, is_digit, TokenKind, Number, Lexeme, is_sign, digits_of, seen, ◌▸◌, is_number, is_number_kind, Lawful, Begins, Apart, IsTooLong, shortened, short_word}
use Rattle.ddl_part_laws.proofs.{Shorter.sign_agrees, Shorter.long_no_number, Simple.Shortens, Simple.one_laws, Simple.seen_laws, Simple.seen_begins, Sequence.lead_begins, Choice.choose_apart, Leads.sign_laws}
use Rattle.ddl_parts.specs.Numbers.{digits_below, count_first, counted, count_value, count, opposite, whole_number}

-- a number is no sign
pub number_no_sign : (b : ℕ) → Apart is_number (is_sign b)
unfolding is_number is_sign
number_no_sign b = grind arith

abbrev a_zero : Lexeme
a_zero = record { gap = 32 ∷ []; kind = Number; word = 48 ∷ []; start = 0 }

pub zero_below : (limit : ℕ) → 0 < limit → digits_below limit (48 ∷ []) ≡ Some 0
unfolding digits_below is_digit
zero_below limit some = rw (lt-ltb 0 limit some) refl

no_digits : (limit : ℕ) (k : TokenKind) (w : List ℕ) → is_number_kind k ≡ false → option_and_then (digits_below limit) (digits_of k w) ≡ None
no_digits limit k w e = grind arith

-- so a short one in its place is none either
pub no_count_first : (limit : ℕ) (t : Lexeme) → IsTooLong t → count_first limit (shortened t ∷ []) ≡ count_first limit (t ∷ [])
no_count_first limit t long = no_digits limit t.kind (short_word t.kind) (long_no_number t long) ∙ sym (no_digits limit t.kind t.word (long_no_number t long))

pub count_shortens : (limit : ℕ) → Shortens (count_value limit)
unfolding count_value
count_shortens limit = record { long = λ t e. absurd (grind arith); none = λ t long e. ap counted (no_digits limit t.kind (short_word t.kind) (long_no_number t long)) }

count_laws : (limit : ℕ) → 0 < limit → Lawful (count limit)
unfolding count_value
count_laws limit some = one_laws (count_value limit) (count_shortens limit) a_zero 0 (ap counted (zero_below limit some))

pub count_begins : (limit : ℕ) → Begins is_number (count limit)
unfolding count_value is_number
count_begins limit = grind arith

pub whole_number_laws : Lawful whole_number
unfolding whole_number
whole_number_laws =
    choose_apart (is_sign 45) is_number (sign_agrees 45) (seen opposite (is_sign 45 ▸ count (2 ^ 63 + 1))) (seen pos (count (2 ^ 63)))
    (seen_laws opposite (is_sign 45 ▸ count (2 ^ 63 + 1)) (sign_laws 45 (count (2 ^ 63 + 1)) (count_laws (2 ^ 63 + 1) (omega arith))))
    (seen_laws pos (count (2 ^ 63)) (count_laws (2 ^ 63) (omega arith)))
    (seen_begins (is_sign 45) opposite (is_sign 45 ▸ count (2 ^ 63 + 1)) (lead_begins (is_sign 45) (count (2 ^ 63 + 1))))
    (seen_begins is_number pos (count (2 ^ 63)) (count_begins (2 ^ 63))) (number_no_sign 45)

pub whole_number_ends : (t : Lexeme) → whole_number.goes_on t ≡ false
unfolding whole_number
whole_number_ends t = refl
