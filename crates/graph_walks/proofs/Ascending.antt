-- Lists in which a relation leads from each element to each later one.
use Rattle.std.proofs.Common.{◌≡◌, ℕ, zero, suc, ◌<◌, Bool, true, List, [], ◌∷◌, length, get_or, arith}
use Rattle.std.specs.List.{AllByRecursion, filter}
use Rattle.std.proofs.lemmas.Bool.{cond_both}
use Rattle.std.proofs.lemmas.List.Elements.{recursion_from_All, All-from_recursion}

-- a relation leads from each element to each later one
abbrev pub Ascends : {X : Type 0} → (X → X → Type 0) → List X → Type 0
Ascends R [] = Unit {0}
Ascends R (x ∷ xs) = AllByRecursion (R x) xs × Ascends R xs

pub ascends_from : {X : Type 0} (R : X → X → Type 0) (xs : List X) → ((i j : ℕ) (d : X) → i < j → j < length xs → R (get_or xs i d) (get_or xs j d)) → Ascends R xs
ascends_from R [] far = tt
ascends_from R (x ∷ xs) far =
    (recursion_from_All (R x) xs (λ k d small. far 0 (suc k) d (omega arith) (omega arith)), ascends_from R xs (λ i j d low high. far (suc i) (suc j) d (omega arith) (omega arith)))

pub each_kept : {X : Type 0} (p : X → Bool) (P Q : X → Type 0) (xs : List X) → ((x : X) → p x ≡ true → P x → Q x) → AllByRecursion P xs → AllByRecursion Q (filter p xs)
each_kept p P Q [] to all = tt
each_kept p P Q (x ∷ xs) to all =
    let rest = each_kept p P Q xs to all.1 in
    cond_both (p x) (x ∷ filter p xs) (filter p xs) (AllByRecursion Q) (λ holds. (to x holds all.0, rest)) (λ fails. rest)

pub ascends_kept : {X : Type 0} (p : X → Bool) (R S : X → X → Type 0) (xs : List X) → ((x y : X) → p x ≡ true → p y ≡ true → R x y → S x y) → Ascends R xs → Ascends S (filter p xs)
ascends_kept p R S [] to up = tt
ascends_kept p R S (x ∷ xs) to up =
    let rest = ascends_kept p R S xs to up.1 in
    cond_both (p x) (x ∷ filter p xs) (filter p xs) (Ascends S) (λ holds. (each_kept p (R x) (S x) xs (λ y kept r. to x y holds kept r) up.0, rest)) (λ fails. rest)

pub ascends_at : {X : Type 0} (R : X → X → Type 0) (xs : List X) → Ascends R xs → (i j : ℕ) (d : X) → i < j → j < length xs → R (get_or xs i d) (get_or xs j d)
ascends_at R (x ∷ xs) up zero (suc j) d low high = All-from_recursion (R x) xs up.0 j d (omega arith)
ascends_at R (x ∷ xs) up (suc i) (suc j) d low high = ascends_at R xs up.1 i j d (omega arith) (omega arith)
ascends_at R (x ∷ xs) up i zero d low high = absurd (omega arith)
ascends_at R [] up i j d low high = absurd (omega arith)
