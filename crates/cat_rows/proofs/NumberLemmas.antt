-- A text is a plain decimal exactly where it is the decimal of the number that parsing gives.
use Rattle.std.proofs.Common.{◌≡◌, ℕ, suc, ◌<◌, ◌^◌, Bool, true, false, cond, eqb, ltb, List, [], ◌∷◌, get_or, Some, None, Result, Ok, Err, ℤ, pos, negsuc, neg_ℤ, refl, sym, ap, subst, ◌∙◌, arith, inl, inr, ◌⊎◌}
use Rattle.std.specs.Prelude.{◌&&◌}
use Rattle.std.proofs.lemmas.Bool.{cases_Bool, false≢true, lt-ltb, ltb-true, eqb-true}
use Rattle.std.proofs.lemmas.Slice.Eq.{bytes_eq-Decides}
use Rattle.std.proofs.lemmas.Fmt.{decimal_is_IsNumeral, parse-decimal, parse-signed_decimal}
use Rattle.std.proofs.lemmas.Result.{OkIff-at_ok}
use Rattle.std.specs.Char.{digit_value}
use Rattle.std.specs.Fmt.{decimal, signed_decimal}
use Rattle.std.specs.Str.{bytes_eq}
use Rattle.std.specs.Str.Parse.{digits_value, signed_digits_value, IsNumeral, ParsesUnsigned, ParsesSigned}
use Rattle.std.specs.Int.{w64}
use Rattle.std.specs.Int.RustNames.{FitsSigned}
use Rattle.cat_rows.specs.Numbers.{oid_of, int_of, is_int}

-- ---- tests

and_parts : (a b : Bool) → (a && b) ≡ true → (a ≡ true) × (b ≡ true)
and_parts true true is = (refl, refl)
and_parts true false is = absurd cc
and_parts false true is = absurd cc
and_parts false false is = absurd cc

chosen : {A : Type 0} (b : Bool) (x y : A) → b ≡ true → cond b x y ≡ x
chosen b x y is = rw is refl

passed : {A : Type 0} (b : Bool) (x y : A) → b ≡ false → cond b x y ≡ y
passed b x y is = rw is refl

-- ---- oids

-- reading a plain decimal gives its number
pub oid_of-decimal : (text : List ℕ) (n : ℕ) → n < 2 ^ 32 → text ≡ decimal n → oid_of text ≡ Some n
unfolding oid_of
oid_of-decimal text n small is =
    let value : digits_value 10 text ≡ n = ap (digits_value 10) is ∙ (decimal_is_IsNumeral n (omega arith)).1 in
    let same : bytes_eq text (decimal n) ≡ true = (bytes_eq-Decides text (decimal n)).1 is in
    let below : ltb n (2 ^ 32) ≡ true = lt-ltb n (2 ^ 32) small in
    rw (value, same, below) refl

-- a text that is no plain decimal is no oid
pub oid_of-None : (text : List ℕ) → ((n : ℕ) → n < 2 ^ 32 → text ≡ decimal n → ⊥) → oid_of text ≡ None
unfolding oid_of
oid_of-None text never = by (cases_Bool (bytes_eq text (decimal (digits_value 10 text)) && ltb (digits_value 10 text) (2 ^ 32)))
  where
    by : ((bytes_eq text (decimal (digits_value 10 text)) && ltb (digits_value 10 text) (2 ^ 32)) ≡ true) ⊎ ((bytes_eq text (decimal (digits_value 10 text)) && ltb (digits_value 10 text) (2 ^ 32)) ≡ false)
        → cond (bytes_eq text (decimal (digits_value 10 text)) && ltb (digits_value 10 text) (2 ^ 32)) (Some (digits_value 10 text)) None ≡ None
    by (inl is) =
        let parts = and_parts (bytes_eq text (decimal (digits_value 10 text))) (ltb (digits_value 10 text) (2 ^ 32)) is in
        absurd (never (digits_value 10 text) (ltb-true _ _ parts.1) ((bytes_eq-Decides text (decimal (digits_value 10 text))).0 parts.0))
    by (inr is) = passed _ (Some (digits_value 10 text)) None is

-- what parsing and writing again tell of a text: r is what parsing gave
pub oid_of-parsed : {E : Type 0} (text : List ℕ) (r : Result ℕ E) (n : ℕ) → ParsesUnsigned 32 10 text r → r ≡ Ok n → bytes_eq (decimal n) text ≡ true → oid_of text ≡ Some n
oid_of-parsed text r n parses read same =
    let told = OkIff-at_ok r _ _ n parses read in
    let small : n < 2 ^ 32 = omega (arith, told.0.1, told.1) in
    oid_of-decimal text n small (sym ((bytes_eq-Decides (decimal n) text).0 same))

pub oid_of-other : {E : Type 0} (text : List ℕ) (r : Result ℕ E) (n : ℕ) → ParsesUnsigned 32 10 text r → r ≡ Ok n → bytes_eq (decimal n) text ≡ false → oid_of text ≡ None
oid_of-other text r n parses read differs =
    oid_of-None text (λ m small is.
    let found : r ≡ Ok m = parse-decimal 32 m text r small (omega arith) is parses in
    let equal : m ≡ n = cc in
    absurd (false≢true (sym differs ∙ (bytes_eq-Decides (decimal n) text).1 (ap decimal (sym equal) ∙ sym is))))

pub oid_of-unparsed : {E : Type 0} (text : List ℕ) (r : Result ℕ E) (e : E) → ParsesUnsigned 32 10 text r → r ≡ Err e → oid_of text ≡ None
oid_of-unparsed text r e parses none =
    oid_of-None text (λ n small is.
    let found : r ≡ Ok n = parse-decimal 32 n text r small (omega arith) is parses in
    absurd cc)

-- ---- integers

pub is_int-Fits : (z : ℤ) → is_int z ≡ true → FitsSigned w64 z
is_int-Fits (pos n) is = record { sfits = ltb-true n (2 ^ 63) is }
is_int-Fits (negsuc n) is = record { sfits = ltb-true n (2 ^ 63) is }

pub Fits-is_int : (z : ℤ) → FitsSigned w64 z → is_int z ≡ true
Fits-is_int (pos n) fits = lt-ltb n (2 ^ 63) fits.sfits
Fits-is_int (negsuc n) fits = lt-ltb n (2 ^ 63) fits.sfits

-- the first of digits is no sign
first_differs : (ds : List ℕ) (b : ℕ) → IsNumeral 10 ds → (digit_value b < 10 → ⊥) → eqb (get_or ds 0 0) b ≡ false
first_differs [] b numeral never = absurd (omega arith)
first_differs (d ∷ ds) b numeral never = by (cases_Bool (eqb d b))
  where
    by : (eqb d b ≡ true) ⊎ (eqb d b ≡ false) → eqb d b ≡ false
    by (inl is) = absurd (never (subst (λ (x : ℕ). digit_value x < 10) (eqb-true d b is) numeral.1.0))
    by (inr is) = is

-- the number of a plain decimal
pub signed_value : (z : ℤ) → is_int z ≡ true → signed_digits_value 10 (signed_decimal z) ≡ z
signed_value (pos n) small =
    let below : n < 2 ^ 63 = ltb-true n (2 ^ 63) small in
    let numeral = decimal_is_IsNumeral n (omega arith) in
    let no_minus : eqb (get_or (decimal n) 0 0) 45 ≡ false = first_differs (decimal n) 45 numeral.0 (λ lt. omega arith) in
    let no_plus : eqb (get_or (decimal n) 0 0) 43 ≡ false = first_differs (decimal n) 43 numeral.0 (λ lt. omega arith) in
    rw (no_minus, no_plus) (ap pos numeral.1)
signed_value (negsuc n) small =
    let below : n < 2 ^ 63 = ltb-true n (2 ^ 63) small in
    ap (λ (m : ℕ). neg_ℤ (pos m)) (decimal_is_IsNumeral (suc n) (omega arith)).1

-- reading a plain decimal gives its number
pub int_of-decimal : (text : List ℕ) (z : ℤ) → is_int z ≡ true → text ≡ signed_decimal z → int_of text ≡ Some z
unfolding int_of
int_of-decimal text z small is =
    let value : signed_digits_value 10 text ≡ z = ap (signed_digits_value 10) is ∙ signed_value z small in
    let same : bytes_eq text (signed_decimal z) ≡ true = (bytes_eq-Decides text (signed_decimal z)).1 is in
    rw (value, same, small) refl

-- a text that is no plain decimal is no integer
pub int_of-None : (text : List ℕ) → ((z : ℤ) → is_int z ≡ true → text ≡ signed_decimal z → ⊥) → int_of text ≡ None
unfolding int_of
int_of-None text never = by (cases_Bool (bytes_eq text (signed_decimal (signed_digits_value 10 text)) && is_int (signed_digits_value 10 text)))
  where
    by : ((bytes_eq text (signed_decimal (signed_digits_value 10 text)) && is_int (signed_digits_value 10 text)) ≡ true) ⊎ ((bytes_eq text (signed_decimal (signed_digits_value 10 text)) && is_int (signed_digits_value 10 text)) ≡ false)
        → cond (bytes_eq text (signed_decimal (signed_digits_value 10 text)) && is_int (signed_digits_value 10 text)) (Some (signed_digits_value 10 text)) None ≡ None
    by (inl is) =
        let parts = and_parts (bytes_eq text (signed_decimal (signed_digits_value 10 text))) (is_int (signed_digits_value 10 text)) is in
        absurd (never (signed_digits_value 10 text) parts.1 ((bytes_eq-Decides text (signed_decimal (signed_digits_value 10 text))).0 parts.0))
    by (inr is) = passed _ (Some (signed_digits_value 10 text)) None is

int_parses : {E : Type 0} (z : ℤ) (text : List ℕ) (r : Result ℤ E) → is_int z ≡ true → text ≡ signed_decimal z → ParsesSigned w64 10 text r → r ≡ Ok z
int_parses z text r small is parses =
    let fits = is_int-Fits z small in
    parse-signed_decimal w64 z text r fits fits.sfits is parses

pub int_of-parsed : {E : Type 0} (text : List ℕ) (r : Result ℤ E) (z : ℤ) → ParsesSigned w64 10 text r → r ≡ Ok z → bytes_eq (signed_decimal z) text ≡ true → int_of text ≡ Some z
int_of-parsed text r z parses read same =
    let told = OkIff-at_ok r _ _ z parses read in
    let fits : FitsSigned w64 z = subst (λ (y : ℤ). FitsSigned w64 y) (sym told.1) told.0.1 in
    int_of-decimal text z (Fits-is_int z fits) (sym ((bytes_eq-Decides (signed_decimal z) text).0 same))

pub int_of-other : {E : Type 0} (text : List ℕ) (r : Result ℤ E) (z : ℤ) → ParsesSigned w64 10 text r → r ≡ Ok z → bytes_eq (signed_decimal z) text ≡ false → int_of text ≡ None
int_of-other text r z parses read differs =
    int_of-None text (λ y small is.
    let found : r ≡ Ok y = int_parses y text r small is parses in
    let equal : y ≡ z = cc in
    absurd (false≢true (sym differs ∙ (bytes_eq-Decides (signed_decimal z) text).1 (ap signed_decimal (sym equal) ∙ sym is))))

pub int_of-unparsed : {E : Type 0} (text : List ℕ) (r : Result ℤ E) (e : E) → ParsesSigned w64 10 text r → r ≡ Err e → int_of text ≡ None
int_of-unparsed text r e parses none =
    int_of-None text (λ z small is.
    let found : r ≡ Ok z = int_parses z text r small is parses in
    absurd cc)

-- ---- a number that was read has one text

pub oid_of-spelled : (text : List ℕ) (n : ℕ) → oid_of text ≡ Some n → text ≡ decimal n
unfolding oid_of
oid_of-spelled text n is = by (cases_Bool (bytes_eq text (decimal (digits_value 10 text)) && ltb (digits_value 10 text) (2 ^ 32)))
  where
    by : ((bytes_eq text (decimal (digits_value 10 text)) && ltb (digits_value 10 text) (2 ^ 32)) ≡ true) ⊎ ((bytes_eq text (decimal (digits_value 10 text)) && ltb (digits_value 10 text) (2 ^ 32)) ≡ false)
        → text ≡ decimal n
    by (inl holds) =
        let parts = and_parts (bytes_eq text (decimal (digits_value 10 text))) (ltb (digits_value 10 text) (2 ^ 32)) holds in
        let read : Some (digits_value 10 text) ≡ Some n = sym (chosen _ (Some (digits_value 10 text)) None holds) ∙ is in
        let same : digits_value 10 text ≡ n = cc in
        (bytes_eq-Decides text (decimal (digits_value 10 text))).0 parts.0 ∙ ap decimal same
    by (inr fails) =
        let read : None ≡ Some n = sym (passed _ (Some (digits_value 10 text)) None fails) ∙ is in
        absurd cc

pub int_of-spelled : (text : List ℕ) (z : ℤ) → int_of text ≡ Some z → text ≡ signed_decimal z
unfolding int_of
int_of-spelled text z is = by (cases_Bool (bytes_eq text (signed_decimal (signed_digits_value 10 text)) && is_int (signed_digits_value 10 text)))
  where
    by : ((bytes_eq text (signed_decimal (signed_digits_value 10 text)) && is_int (signed_digits_value 10 text)) ≡ true) ⊎ ((bytes_eq text (signed_decimal (signed_digits_value 10 text)) && is_int (signed_digits_value 10 text)) ≡ false)
        → text ≡ signed_decimal z
    by (inl holds) =
        let parts = and_parts (bytes_eq text (signed_decimal (signed_digits_value 10 text))) (is_int (signed_digits_value 10 text)) holds in
        let read : Some (signed_digits_value 10 text) ≡ Some z = sym (chosen _ (Some (signed_digits_value 10 text)) None holds) ∙ is in
        let same : signed_digits_value 10 text ≡ z = cc in
        (bytes_eq-Decides text (signed_decimal (signed_digits_value 10 text))).0 parts.0 ∙ ap signed_decimal same
    by (inr fails) =
        let read : None ≡ Some z = sym (passed _ (Some (signed_digits_value 10 text)) None fails) ∙ is in
        absurd cc

pub oid_of-small : (text : List ℕ) (n : ℕ) → oid_of text ≡ Some n → n < 2 ^ 32
unfolding oid_of
oid_of-small text n is = by (cases_Bool (bytes_eq text (decimal (digits_value 10 text)) && ltb (digits_value 10 text) (2 ^ 32)))
  where
    by : ((bytes_eq text (decimal (digits_value 10 text)) && ltb (digits_value 10 text) (2 ^ 32)) ≡ true) ⊎ ((bytes_eq text (decimal (digits_value 10 text)) && ltb (digits_value 10 text) (2 ^ 32)) ≡ false)
        → n < 2 ^ 32
    by (inl holds) =
        let parts = and_parts (bytes_eq text (decimal (digits_value 10 text))) (ltb (digits_value 10 text) (2 ^ 32)) holds in
        let read : Some (digits_value 10 text) ≡ Some n = sym (chosen _ (Some (digits_value 10 text)) None holds) ∙ is in
        let same : digits_value 10 text ≡ n = cc in
        subst (λ (x : ℕ). x < 2 ^ 32) same (ltb-true _ _ parts.1)
    by (inr fails) =
        let read : None ≡ Some n = sym (passed _ (Some (digits_value 10 text)) None fails) ∙ is in
        absurd cc

pub int_of-small : (text : List ℕ) (z : ℤ) → int_of text ≡ Some z → is_int z ≡ true
unfolding int_of
int_of-small text z is = by (cases_Bool (bytes_eq text (signed_decimal (signed_digits_value 10 text)) && is_int (signed_digits_value 10 text)))
  where
    by : ((bytes_eq text (signed_decimal (signed_digits_value 10 text)) && is_int (signed_digits_value 10 text)) ≡ true) ⊎ ((bytes_eq text (signed_decimal (signed_digits_value 10 text)) && is_int (signed_digits_value 10 text)) ≡ false)
        → is_int z ≡ true
    by (inl holds) =
        let parts = and_parts (bytes_eq text (signed_decimal (signed_digits_value 10 text))) (is_int (signed_digits_value 10 text)) holds in
        let read : Some (signed_digits_value 10 text) ≡ Some z = sym (chosen _ (Some (signed_digits_value 10 text)) None holds) ∙ is in
        let same : signed_digits_value 10 text ≡ z = cc in
        ap is_int (sym same) ∙ parts.1
    by (inr fails) =
        let read : None ≡ Some z = sym (passed _ (Some (signed_digits_value 10 text)) None fails) ∙ is in
        absurd cc
