-- What holds of each element of a list, and of those of lists that were put together.
use Rattle.std.proofs.Common.{◌≡◌, ◌⊎◌, Bool, true, List, [], ◌∷◌, ◌++◌, map, refl, subst, inl, inr}
use Rattle.std.specs.List.{AllByRecursion, flat_map, list_all}
use Rattle.std.specs.Cmp.{first_so, second_so}

abbrev pub IsIn : {A : Type 0} → A → List A → Type 0
IsIn x [] = ⊥
IsIn x (y ∷ ys) = (y ≡ x) ⊎ IsIn x ys

module _ {A : Type 0} (P : A → Type 0) where
  -- what holds of each element, of a member, and the other way round
  pub of_member : (xs : List A) → AllByRecursion P xs → (x : A) → IsIn x xs → P x
  of_member [] all x among = elim among [ ]
  of_member (y ∷ ys) all x (inl e) = subst P e all.0
  of_member (y ∷ ys) all x (inr later) = of_member ys all.1 x later

  pub of_each : (xs : List A) → ((x : A) → IsIn x xs → P x) → AllByRecursion P xs
  of_each [] each = tt
  of_each (y ∷ ys) each = (each y (inl refl), of_each ys (λ x among. each x (inr among)))

  pub all-append : (xs ys : List A) → AllByRecursion P xs → AllByRecursion P ys → AllByRecursion P (xs ++ ys)
  all-append [] ys all others = others
  all-append (x ∷ xs) ys all others = (all.0, all-append xs ys all.1 others)

  pub all-front : (xs ys : List A) → AllByRecursion P (xs ++ ys) → AllByRecursion P xs
  all-front [] ys all = tt
  all-front (x ∷ xs) ys all = (all.0, all-front xs ys all.1)

  pub all-back : (xs ys : List A) → AllByRecursion P (xs ++ ys) → AllByRecursion P ys
  all-back [] ys all = all
  all-back (x ∷ xs) ys all = all-back xs ys all.1

  pub all-flat : {B : Type 0} (f : B → List A) (bs : List B) → AllByRecursion (λ b. AllByRecursion P (f b)) bs → AllByRecursion P (flat_map f bs)
  all-flat f [] all = tt
  all-flat f (b ∷ bs) all = all-append (f b) (flat_map f bs) all.0 (all-flat f bs all.1)

  pub flat-all : {B : Type 0} (f : B → List A) (bs : List B) → AllByRecursion P (flat_map f bs) → AllByRecursion (λ b. AllByRecursion P (f b)) bs
  flat-all f [] all = tt
  flat-all f (b ∷ bs) all = (all-front (f b) (flat_map f bs) all, flat-all f bs (all-back (f b) (flat_map f bs) all))

  pub all-mapped : {B : Type 0} (f : B → A) (bs : List B) → AllByRecursion (λ b. P (f b)) bs → AllByRecursion P (map f bs)
  all-mapped f [] all = tt
  all-mapped f (b ∷ bs) all = (all.0, all-mapped f bs all.1)

  pub mapped-all : {B : Type 0} (f : B → A) (bs : List B) → AllByRecursion P (map f bs) → AllByRecursion (λ b. P (f b)) bs
  mapped-all f [] all = tt
  mapped-all f (b ∷ bs) all = (all.0, mapped-all f bs all.1)

  pub all-weaker : (Q : A → Type 0) → ((x : A) → P x → Q x) → (xs : List A) → AllByRecursion P xs → AllByRecursion Q xs
  all-weaker Q step [] all = tt
  all-weaker Q step (x ∷ xs) all = (step x all.0, all-weaker Q step xs all.1)

pub tested-append : {A : Type 0} (p : A → Bool) (xs ys : List A) → list_all p xs ≡ true → list_all p ys ≡ true → list_all p (xs ++ ys) ≡ true
tested-append p [] ys all others = others
tested-append p (x ∷ xs) ys all others = rw (first_so (p x) (list_all p xs) all, tested-append p xs ys (second_so (p x) (list_all p xs) all) others) refl

pub of_tested : {A : Type 0} (p : A → Bool) (xs : List A) → AllByRecursion (λ x. p x ≡ true) xs → list_all p xs ≡ true
of_tested p [] all = refl
of_tested p (x ∷ xs) all = rw (all.0, of_tested p xs all.1) refl
