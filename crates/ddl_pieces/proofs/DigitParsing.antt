-- What parsing digits gives is the number that they write.
use Rattle.ddl_pieces.proofs.Common.{◌≡◌, ℕ, ◌<◌, ◌≤◌, ◌^◌, true, List, [], ◌∷◌, length, Some, None, Result, Ok, Err, arith, list_all, digit_value, IsUtf8, digits_value, AllDigits, ParsesUnsigned, without_leading_plus, and_parts, lt-ltb, IsAscii-from_digits, IsUtf8-from_ascii, is_digit}
use Rattle.std.proofs.lemmas.Bool.{ltb-true}
use Rattle.ddl_parts.specs.Numbers.{digits_below}

digit_of : (c : ℕ) → is_digit c ≡ true → digit_value c < 10
unfolding is_digit
digit_of c e = grind arith

all_digits : (word : List ℕ) → list_all is_digit word ≡ true → AllDigits 10 word
all_digits [] e = tt
all_digits (c ∷ word) e = let h = and_parts (is_digit c) (list_all is_digit word) e in (digit_of c h.0, all_digits word h.1)

no_plus : (word : List ℕ) → 0 < length word → AllDigits 10 word → without_leading_plus word ≡ word
no_plus word some all = grind arith

pub are_utf8 : (word : List ℕ) → list_all is_digit word ≡ true → IsUtf8 word
are_utf8 word e = IsUtf8-from_ascii word (IsAscii-from_digits word (all_digits word e))

value_is : {E : Type 0} (word : List ℕ) (n : ℕ) (r : Result ℕ E) → 0 < length word → list_all is_digit word ≡ true → ParsesUnsigned 64 10 word r → r ≡ Ok n → digits_value 10 word ≡ n
value_is word n r some digits parses is = grind (arith, no_plus, all_digits)

pub small : {E : Type 0} (word text : List ℕ) (limit n : ℕ) (r : Result ℕ E) → 0 < length word → list_all is_digit word ≡ true → text ≡ word → ParsesUnsigned 64 10 text r → r ≡ Ok n → n < limit → digits_below limit word ≡ Some n
unfolding digits_below
small word text limit n r some digits same parses is less = grind (arith, value_is, lt-ltb)

pub large : {E : Type 0} (word text : List ℕ) (limit n : ℕ) (r : Result ℕ E) → 0 < length word → list_all is_digit word ≡ true → text ≡ word → ParsesUnsigned 64 10 text r → r ≡ Ok n → limit ≤ n → digits_below limit word ≡ None
unfolding digits_below
large word text limit n r some digits same parses is more = grind (arith, value_is)

pub unparsed : {E : Type 0} (word text : List ℕ) (limit : ℕ) (r : Result ℕ E) (e : E) → 0 < length word → list_all is_digit word ≡ true → text ≡ word → ParsesUnsigned 64 10 text r → r ≡ Err e → limit < 2 ^ 64 → digits_below limit word ≡ None
unfolding digits_below
unparsed word text limit r e some digits same parses is fits = grind (arith, all_digits, no_plus, ltb-true)
