-- A number of at most nine digits is less than a thousand million.
use Rattle.std.proofs.Common.{◌≡◌, ℕ, ◌+◌, ◌-◌, ◌*◌, ◌≤◌, true, List, [], ◌∷◌, length, refl, arith}
use Rattle.std.specs.Prelude.{nat_le}
use Rattle.std.specs.List.{fold, list_all}
use Rattle.std.proofs.lemmas.Bool.{and_parts, and_from, leb-true, le-leb}
use Rattle.cat_model.specs.FieldTypes.{is_digit, is_plain, number_of}

nines : ℕ → List ℕ → ℕ
nines n [] = n
nines n (x ∷ xs) = nines (n * 10 + 9) xs

under_nines : (xs : List ℕ) (n m : ℕ) → n ≤ m → list_all is_digit xs ≡ true → fold (λ n b. n * 10 + (b - 48)) n xs ≤ nines m xs
unfolding nines
under_nines [] n m le all = le
under_nines (x ∷ xs) n m le all =
    let parts = and_parts (is_digit x) (list_all is_digit xs) all in
    let high = leb-true x 57 (and_parts (nat_le 48 x) (nat_le x 57) parts.0).1 in
    under_nines xs (n * 10 + (x - 48)) (m * 10 + 9) (omega (arith, le, high)) parts.1

few_nines : (xs : List ℕ) → length xs ≤ 9 → nines 0 xs ≤ 999999999
unfolding nines
few_nines [] few = omega arith
few_nines (a ∷ []) few = omega arith
few_nines (a ∷ b ∷ []) few = omega arith
few_nines (a ∷ b ∷ c ∷ []) few = omega arith
few_nines (a ∷ b ∷ c ∷ d ∷ []) few = omega arith
few_nines (a ∷ b ∷ c ∷ d ∷ e ∷ []) few = omega arith
few_nines (a ∷ b ∷ c ∷ d ∷ e ∷ f ∷ []) few = omega arith
few_nines (a ∷ b ∷ c ∷ d ∷ e ∷ f ∷ g ∷ []) few = omega arith
few_nines (a ∷ b ∷ c ∷ d ∷ e ∷ f ∷ g ∷ h ∷ []) few = omega arith
few_nines (a ∷ b ∷ c ∷ d ∷ e ∷ f ∷ g ∷ h ∷ i ∷ []) few = omega arith
few_nines (a ∷ b ∷ c ∷ d ∷ e ∷ f ∷ g ∷ h ∷ i ∷ j ∷ rest) few = absurd (omega arith)

plain_digits : (xs : List ℕ) → is_plain xs ≡ true → list_all is_digit xs ≡ true
plain_digits [] is = refl
plain_digits (x ∷ []) is = and_from (is_digit x) true is refl
plain_digits (x ∷ y ∷ xs) is = (and_parts _ (list_all is_digit (x ∷ y ∷ xs)) is).1

pub few_digits : (xs : List ℕ) (high : ℕ) → length xs ≤ 9 → 999999999 ≤ high → is_plain xs ≡ true → nat_le (number_of xs) high ≡ true
few_digits xs high few most is =
    let low = under_nines xs 0 0 (omega arith) (plain_digits xs is) in
    let least = few_nines xs few in
    le-leb (number_of xs) high (omega (arith, low, least, most))
