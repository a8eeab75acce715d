-- Digits have their number alone, and a set has one key more.
use Rattle.std.proofs.Common.{◌≡◌, ℕ, ◌+◌, ◌-◌, ◌*◌, ◌≤◌, true, leb, List, [], ◌∷◌, refl, sym, ap, ◌∙◌, arith}
use Rattle.std.specs.List.{fold, list_all}
use Rattle.std.proofs.lemmas.Bool.{and_parts, and_from, leb-true}
use Rattle.key_sets.specs.Numbers.{is_digit, number_of}

-- ---- the number of digits, last one first

code : List ℕ → ℕ
code [] = 1
code (b ∷ bs) = code bs * 10 + (b - 48)

onto : List ℕ → List ℕ → List ℕ
onto [] behind = behind
onto (x ∷ xs) behind = onto xs (x ∷ behind)

number_coded : (xs behind : List ℕ) → fold (λ n b. n * 10 + (b - 48)) (code behind) xs ≡ code (onto xs behind)
unfolding code onto
number_coded [] behind = refl
number_coded (x ∷ xs) behind = number_coded xs (x ∷ behind)

turned_back : (xs behind : List ℕ) → onto (onto xs behind) [] ≡ onto behind xs
unfolding onto
turned_back [] behind = refl
turned_back (x ∷ xs) behind = turned_back xs (x ∷ behind)

same_turned : (xs ys : List ℕ) → onto xs [] ≡ onto ys [] → xs ≡ ys
unfolding onto
same_turned xs ys is = sym (turned_back xs []) ∙ ap (λ (zs : List ℕ). onto zs []) is ∙ turned_back ys []

digits_turned : (xs behind : List ℕ) → list_all is_digit xs ≡ true → list_all is_digit behind ≡ true → list_all is_digit (onto xs behind) ≡ true
unfolding onto
digits_turned [] behind all more = more
digits_turned (x ∷ xs) behind all more =
    let parts = and_parts (is_digit x) (list_all is_digit xs) all in
    digits_turned xs (x ∷ behind) parts.1 (and_from (is_digit x) (list_all is_digit behind) parts.0 more)

one_at_least : (xs : List ℕ) → 1 ≤ code xs
unfolding code
one_at_least [] = omega arith
one_at_least (x ∷ xs) = omega (arith, one_at_least xs)

digit_bounds : (x : ℕ) → is_digit x ≡ true → (48 ≤ x) × (x ≤ 57)
digit_bounds x is =
    let parts = and_parts (leb 48 x) (leb x 57) is in
    (leb-true 48 x parts.0, leb-true x 57 parts.1)

same_coded : (xs ys : List ℕ) → list_all is_digit xs ≡ true → list_all is_digit ys ≡ true → code xs ≡ code ys → xs ≡ ys
unfolding code
same_coded [] [] all_xs all_ys is = refl
same_coded [] (y ∷ ys) all_xs all_ys is = absurd (omega (arith, one_at_least ys))
same_coded (x ∷ xs) [] all_xs all_ys is = absurd (omega (arith, one_at_least xs))
same_coded (x ∷ xs) (y ∷ ys) all_xs all_ys is =
    let first = and_parts (is_digit x) (list_all is_digit xs) all_xs in
    let second = and_parts (is_digit y) (list_all is_digit ys) all_ys in
    let low = digit_bounds x first.0 in
    let high = digit_bounds y second.0 in
    let rest : code xs ≡ code ys = omega arith in
    let digit : x ≡ y = omega arith in
    let later = same_coded xs ys first.1 second.1 rest in
    λ i. digit i ∷ later i

pub same_number : (xs ys : List ℕ) → list_all is_digit xs ≡ true → list_all is_digit ys ≡ true → number_of xs ≡ number_of ys → xs ≡ ys
unfolding code
same_number xs ys all_xs all_ys is =
    same_turned xs ys (same_coded (onto xs []) (onto ys []) (digits_turned xs [] all_xs refl) (digits_turned ys [] all_ys refl) (sym (number_coded xs []) ∙ is ∙ number_coded ys []))
