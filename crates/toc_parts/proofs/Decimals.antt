-- What parsing digits gives is the number that they write, and what is written is parsed as it.
use Rattle.std.proofs.Common.{◌≡◌, ℕ, ◌<◌, ◌^◌, Bool, true, false, List, length, Some, None, Result, Ok, Err, refl, sym, ap, ◌∙◌, arith, rules, decimal}
use Rattle.std.specs.Prelude.{nat_lt, ◌&&◌}
use Rattle.std.specs.Char.{is_ascii_digit}
use Rattle.std.specs.List.{list_all}
use Rattle.std.specs.Result.{OkIff, result_ok}
use Rattle.std.specs.Str.Parse.{digits_value, ParsesUnsigned}
use Rattle.std.proofs.lemmas.Bool.{lt-ltb, ltb-true, and_parts}
use Rattle.std.proofs.lemmas.Fmt.{digits_value-decimal, decimal_is_IsNumeral}
use Rattle.std.proofs.lemmas.Str.Parse.{IsNumeralModel, numerals_by_value, parse_digits}
use Rattle.toc_parts.specs.Fields.{are_digits, in_range, number_in}

own : IsNumeralModel (λ ds. list_all is_ascii_digit ds ≡ true) (digits_value 10)
own = numerals_by_value _ (search rules)

in_range-is : (text : List ℕ) → 0 < length text → digits_value 10 text < 2 ^ 32 → in_range text ≡ Some (digits_value 10 text)
in_range-is text some low = rw (lt-ltb 0 (length text) some, lt-ltb (digits_value 10 text) (2 ^ 32) low) refl

by_test : (text : List ℕ) (b : Bool) → (nat_lt 0 (length text) && nat_lt (digits_value 10 text) (2 ^ 32)) ≡ b → ((0 < length text) × (digits_value 10 text < 2 ^ 32) → ⊥) → in_range text ≡ None
by_test text false e none = rw e refl
by_test text true e none = let h = and_parts (nat_lt 0 (length text)) (nat_lt (digits_value 10 text) (2 ^ 32)) e in absurd (none (ltb-true 0 (length text) h.0, ltb-true (digits_value 10 text) (2 ^ 32) h.1))

by_parse : {E : Type 0} (text : List ℕ) (r : Result ℕ E) → OkIff r ((0 < length text) × (digits_value 10 text < 2 ^ 32)) (digits_value 10 text) → result_ok r ≡ in_range text
by_parse text (Ok n) told = ap (λ (k : ℕ). Some k) told.1 ∙ sym (in_range-is text told.0.0 told.0.1)
by_parse text (Err e) told = sym (by_test text (nat_lt 0 (length text) && nat_lt (digits_value 10 text) (2 ^ 32)) refl told)

pub parsed : {E : Type 0} (text : List ℕ) (r : Result ℕ E) → are_digits text ≡ true → ParsesUnsigned 32 10 text r → result_ok r ≡ number_in text
unfolding number_in
parsed text r digits parses = rw digits (by_parse text r (parse_digits own 32 text r parses digits))

-- the decimal of a number below 2^32 is read as it
pub again : (n : ℕ) → n < 2 ^ 32 → number_in (decimal n) ≡ Some n
unfolding number_in
again n low =
    let digits : are_digits (decimal n) ≡ true = own.from (decimal n) (decimal_is_IsNumeral n (omega arith)).0.1 in
    let value : digits_value 10 (decimal n) ≡ n = digits_value-decimal own n (omega arith) in
    let some : 0 < length (decimal n) = (decimal_is_IsNumeral n (omega arith)).0.0 in
    rw digits (in_range-is (decimal n) some (rw value low) ∙ ap (λ (k : ℕ). Some k) value)
