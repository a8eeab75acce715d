-- How many of some things pass a test, and what it means that no more pass another.
use Rattle.std.proofs.Common.{◌≡◌, ℕ, ◌+◌, ◌≤◌, Bool, true, false, true≢false, cond, List, [], ◌∷◌, length, Some, unwrap_or, find, refl, sym, ap, subst, arith}
use Rattle.std.proofs.lemmas.Option.{none-some}

abbrev one : Bool → ℕ
one true = 1
one false = 0

abbrev pub count : {A : Type 0} → (A → Bool) → List A → ℕ
count f [] = 0
count f (x ∷ xs) = one (f x) + count f xs

one_most : (b : Bool) → one b ≤ 1
one_most true = omega arith
one_most false = omega arith

-- no more pass than there are
pub count_most : {A : Type 0} (f : A → Bool) (xs : List A) → count f xs ≤ length xs
count_most f [] = omega arith
count_most f (x ∷ xs) =
    let a = one_most (f x) in
    let b = count_most f xs in
    omega (arith, a, b)

-- what passes the first test passes the second
abbrev pub Within : {A : Type 0} → (A → Bool) → (A → Bool) → Type 0
Within {A} f g = (x : A) → f x ≡ true → g x ≡ true

one_mono : (a b : Bool) → (a ≡ true → b ≡ true) → one a ≤ one b
one_mono true true h = omega arith
one_mono true false h = absurd (true≢false (sym (h refl)))
one_mono false true h = omega arith
one_mono false false h = omega arith

pub count_mono : {A : Type 0} (f g : A → Bool) → Within f g → (xs : List A) → count f xs ≤ count g xs
count_mono f g w [] = omega arith
count_mono f g w (x ∷ xs) =
    let a = one_mono (f x) (g x) (w x) in
    let b = count_mono f g w xs in
    omega (arith, a, b)

-- both tests say the same of each
abbrev pub Alike : {A : Type 0} → (A → Bool) → (A → Bool) → List A → Type 0
Alike f g [] = Unit {0}
Alike f g (x ∷ xs) = (g x ≡ f x) × Alike f g xs

one_same : (a b : Bool) → (a ≡ true → b ≡ true) → one b ≤ one a → b ≡ a
one_same true true h l = refl
one_same true false h l = absurd (true≢false (sym (h refl)))
one_same false true h l = absurd (omega (arith, l))
one_same false false h l = refl

-- where the second test passes no more, both are alike
pub alike : {A : Type 0} (f g : A → Bool) → Within f g → (xs : List A) → count g xs ≤ count f xs → Alike f g xs
alike f g w [] l = tt
alike f g w (x ∷ xs) l =
    let a = one_mono (f x) (g x) (w x) in
    let b = count_mono f g w xs in
    (one_same (f x) (g x) (w x) (omega (arith, a, b, l)), alike f g w xs (omega (arith, a, b, l)))

pub inside : {A : Type 0} (x y : A) → Some x ≡ Some y → x ≡ y
inside x y e = ap (λ o. unwrap_or o x) e

-- and alike of what is found
pub found_alike : {A : Type 0} (f g test : A → Bool) (xs : List A) (b : A) → Alike f g xs → find test xs ≡ Some b → g b ≡ f b
found_alike f g test [] b a e = absurd (none-some b e)
found_alike f g test (x ∷ xs) b a e = by (test x) e (λ h. found_alike f g test xs b a.1 h)
  where
    by : (t : Bool) → cond t (Some x) (find test xs) ≡ Some b → (find test xs ≡ Some b → g b ≡ f b) → g b ≡ f b
    by true h more = subst (λ y. g y ≡ f y) (inside x b h) a.0
    by false h more = more h
