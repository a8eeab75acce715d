-- Whole numbers as they are written, in tokens that stand; and that what is read has 64 bits.
use Rattle.ddl_forms.proofs.Common.{◌≡◌, ℕ, suc, ◌+◌, ◌<◌, ◌^◌, ℤ, pos, negsuc, true, false, List, [], ◌∷◌, ◌++◌, length, append_assoc, append-nil, Option, Some, None, Ok, refl, sym, ap, subst, ◌∙◌, arith, inl, inr, ◌==◌, list_all, digit_value, decimal, signed_decimal, is_utf8, chars, AllDigits, encode, and_from, lt-ltb, nat_tests, decimal_is_IsNumeral, IsAscii-decimal, digit_from_value, IsUtf8-from_ascii, is_utf8-from_IsUtf8, is_blank, is_digit, next_is, goes_on, Number, Sign, spelling_is_read, Lexeme, spelled, is_sign, mark, ◌then◌, is_int, IsInt, ltb-true}
use Rattle.sql_lex.specs.Bytes.{is_sign as is_sign_byte}
use Rattle.ddl_forms.proofs.{Standing.Stands, Kept.safe_ends, Kept.spelled-append, Kept.Begun, Tokens.Gap, Tokens.none, Tokens.gap_stands, Tokens.sign_token, Behind.Safe, Behind.admits, RunTexts.safe_behind, Putting.Follows, Putting.IsPut, Putting.followed, Putting.put_as, Putting.one_put, Putting.then_put, Putting.Yields, Written.Written, Written.leaf_as}
use Rattle.ddl_parts.specs.Numbers.{count, count_first, count_value, counted, digits_below, opposite, whole_number}

-- ---- digits

all_digits : (ds : List ℕ) → AllDigits 10 ds → list_all is_digit ds ≡ true
unfolding is_digit
all_digits [] all = refl
all_digits (c ∷ ds) all = and_from (is_digit c) (list_all is_digit ds) (let h = digit_from_value c all.0 in grind (arith, nat_tests, h)) (all_digits ds all.1)

-- a first digit is no white space and no minus sign
record DigitFirst (ds : List ℕ) : Type 0 where
  first : ℕ
  rest : List ℕ
  bytes : ds ≡ first ∷ rest
  digit : digit_value first < 10

digit_first : (ds : List ℕ) → 0 < length ds → AllDigits 10 ds → DigitFirst ds
digit_first [] some all = absurd (omega arith)
digit_first (c ∷ ds) some all = record { first = c; rest = ds; bytes = refl; digit = all.0 }

digit_no_minus : (c : ℕ) → digit_value c < 10 → (c == 45) ≡ false
digit_no_minus c small = let h = digit_from_value c small in grind (arith, nat_tests, h)

count_put : (n limit : ℕ) (g : List ℕ) (others : List Lexeme) → n < 2 ^ 64 → n < limit → Gap g → Follows others → admits Safe (spelled others) ≡ true → IsPut (count limit) n (g ++ decimal n) others
unfolding count_value digits_below is_sign is_blank
count_put n limit g others wide small gap follows e =
    let numeral = decimal_is_IsNumeral n wide in
    let digits = all_digits (decimal n) numeral.0.1 in
    let f = digit_first (decimal n) numeral.0.0 numeral.0.1 in
    let utf8 = is_utf8-from_IsUtf8 (decimal n) (IsUtf8-from_ascii (decimal n) (IsAscii-decimal n wide)) in
    let safe = safe_behind others e in
    let stands : Stands (record { gap = g; kind = Number; word = decimal n; start = 0 }) (spelled others) = record {
      gap = gap_stands g (decimal n) (spelled others) gap (subst Begun (sym f.bytes) (let h = digit_from_value f.first f.digit in grind (arith, nat_tests, h)));
      token = λ front after h. spelling_is_read front (decimal n) (spelled others ++ after) Number (inl (numeral.0.0, digits)) (safe_ends Number (decimal n) (spelled others ++ after) (λ f. absurd cc) (safe after h)) utf8 (λ f. absurd cc);
      some = numeral.0.0;
    } in
    one_put (count limit) n (record { gap = g; kind = Number; word = decimal n; start = 0 }) others stands (inl refl) (λ at. (_, refl, rw (digits, numeral.1, lt-ltb n limit small) refl)) follows

-- a minus sign before a digit
minus_put : (g : List ℕ) (others : List Lexeme) (f : DigitFirst (spelled others)) → Gap g → Follows others → IsPut (mark (is_sign 45)) tt (g ++ 45 ∷ []) others
unfolding is_sign goes_on next_is is_sign_byte is_blank is_utf8 chars encode
minus_put g others f gap follows =
    let differs = digit_no_minus f.first f.digit in
    let stands : Stands (sign_token g 45) (spelled others) = record {
      gap = gap_stands g (45 ∷ []) (spelled others) gap refl;
      token = λ front after h. spelling_is_read front (45 ∷ []) (spelled others ++ after) (Sign 45) (refl, refl)
          (ap (λ (x : List ℕ). goes_on (Sign 45) (45 ∷ []) (x ++ after)) f.bytes ∙ rw differs refl) refl (λ f. absurd cc);
      some = omega arith;
    } in
    one_put (mark (is_sign 45)) tt (sign_token g 45) others stands (inl refl) (λ at. (_, refl, refl)) follows

behind_digits : (ds : List ℕ) (rest : List ℕ) → DigitFirst ds → DigitFirst (ds ++ rest)
behind_digits ds rest f = record { first = f.first; rest = f.rest ++ rest; bytes = ap (λ (x : List ℕ). x ++ rest) f.bytes; digit = f.digit }

-- a number behind a gap, before what is safe
pub number_put : {g : List ℕ} (gap : Gap g) (z : ℤ) (others : List Lexeme) → is_int z ≡ true → Follows others → admits Safe (spelled others) ≡ true → IsPut whole_number z (g ++ signed_decimal z) others
unfolding whole_number
number_put {g} gap (pos n) others is follows e =
    let small : n < 2 ^ 63 = ltb-true n (2 ^ 63) is in
    put_as (count (2 ^ 63)) whole_number n (pos n) (g ++ decimal n) others (count_put n (2 ^ 63) g others (omega arith) small gap follows e) (λ ts h. inr (n, refl, h))
number_put {g} gap (negsuc n) others is follows e =
    let small : n < 2 ^ 63 = ltb-true n (2 ^ 63) is in
    let ds = decimal (suc n) in
    let k : IsPut (count (2 ^ 63 + 1)) (suc n) (ds ++ []) others = rw append-nil (count_put (suc n) (2 ^ 63 + 1) [] others (omega arith) (omega arith) none follows e) in
    let numeral = decimal_is_IsNumeral (suc n) (omega arith) in
    let f = behind_digits (ds ++ []) (spelled others) (behind_digits ds [] (digit_first ds numeral.0.0 numeral.0.1)) in
    let bytes : (ds ++ []) ++ spelled others ≡ spelled (k.tokens ++ others) = ap (λ (x : List ℕ). x ++ spelled others) (sym k.bytes) ∙ sym (spelled-append k.tokens others) in
    let minus : IsPut (mark (is_sign 45)) tt ((g ++ 45 ∷ []) ++ []) (k.tokens ++ others) = rw append-nil (minus_put g (k.tokens ++ others) (subst DigitFirst bytes f) gap (followed k)) in
    let whole = simp (append_assoc, append-nil) at (then_put (mark (is_sign 45)) (count (2 ^ 63 + 1)) tt (suc n) ((g ++ 45 ∷ []) ∷ []) (ds ∷ []) others k minus) in
    put_as (mark (is_sign 45) then count (2 ^ 63 + 1)) whole_number (tt, suc n) (negsuc n) (g ++ (45 ∷ ds)) others whole (λ ts h. inl (suc n, refl, ((tt, suc n), refl, h)))

-- ---- what is read

pub opposite_is : (n : ℕ) → n < 2 ^ 63 + 1 → IsInt (opposite n)
opposite_is n small = grind arith

abbrev pub IsBelow : ℕ → Option ℕ → Type 0
IsBelow limit None = Unit {0}
IsBelow limit (Some n) = n < limit

pub count_below : (limit : ℕ) (ts : List Lexeme) → IsBelow limit (count_first limit ts)
unfolding digits_below
count_below limit ts = grind arith

counted_below : (limit n : ℕ) (o : Option ℕ) → IsBelow limit o → counted o ≡ Ok n → n < limit
counted_below limit n o is e = grind arith

pub number_made : Yields IsInt whole_number
unfolding whole_number count_value
number_made z ts r came spells = elim spells [
  | inl h ↦ (
      let d = h.2.2.4 in
      subst IsInt (sym (h.1 ∙ ap opposite h.2.1)) (opposite_is h.2.0.1 (counted_below (2 ^ 63 + 1) h.2.0.1 (count_first (2 ^ 63 + 1) (d.0 ∷ [])) (count_below (2 ^ 63 + 1) (d.0 ∷ [])) d.2))
      )
  | inr h ↦ subst IsInt (sym h.1) (lt-ltb h.0 (2 ^ 63) (counted_below (2 ^ 63) h.0 (count_first (2 ^ 63) (h.2.0 ∷ [])) (count_below (2 ^ 63) (h.2.0 ∷ [])) h.2.2))
]

abbrev pub number_as : {g : List ℕ} → Gap g → Written whole_number
number_as {g} gap = leaf_as IsInt IsInt g (λ z is. signed_decimal z) Safe (λ z is others. number_put gap z others is) number_made
