-- Lists in order: two of them in which the elements that tie stand alike are one list.
use Rattle.std.proofs.Common.{◌≡◌, ℕ, suc, ◌+◌, Bool, true, false, cond, List, [], ◌∷◌, get_or, refl, sym, ap, subst, ◌∙◌, add-one, arith}
use Rattle.std.specs.List.{AllByRecursion, filter}
use Rattle.std.specs.List.Sorted.{IsSortedBy, ties}
use Rattle.std.specs.Cmp.{IsStrictWeakOrder}
use Rattle.std.proofs.lemmas.Bool.{cond_both}
use Rattle.std.proofs.lemmas.List.Elements.{recursion_from_All}
use Rattle.std.proofs.lemmas.List.Sorted.{sorted_far}

-- ---- lists by recursion

pub each : {X : Type 0} (P Q : X → Type 0) (xs : List X) → ((x : X) → P x → Q x) → AllByRecursion P xs → AllByRecursion Q xs
each P Q [] to all = tt
each P Q (x ∷ xs) to all = (to x all.0, each P Q xs to all.1)

-- what holds of the elements that a test keeps
pub each_kept : {X : Type 0} (p : X → Bool) (P Q : X → Type 0) (xs : List X) → ((x : X) → p x ≡ true → P x → Q x) → AllByRecursion P xs → AllByRecursion Q (filter p xs)
each_kept p P Q [] to all = tt
each_kept p P Q (x ∷ xs) to all =
    let rest = each_kept p P Q xs to all.1 in
    cond_both (p x) (x ∷ filter p xs) (filter p xs) (AllByRecursion Q) (λ holds. (to x holds all.0, rest)) (λ fails. rest)

-- a test holds of each element that it keeps
pub each_passes : {X : Type 0} (p : X → Bool) (xs : List X) → AllByRecursion (λ x. p x ≡ true) (filter p xs)
each_passes p [] = tt
each_passes p (x ∷ xs) =
    let rest = each_passes p xs in
    cond_both (p x) (x ∷ filter p xs) (filter p xs) (AllByRecursion (λ y. p y ≡ true)) (λ holds. (holds, rest)) (λ fails. rest)

-- what holds of each element holds of the first that a test keeps
first_kept : {X : Type 0} (Q : X → Type 0) (p : X → Bool) (xs : List X) (y : X) (ys : List X) → AllByRecursion Q xs → filter p xs ≡ y ∷ ys → Q y
first_kept Q p xs y ys all is = (subst (AllByRecursion Q) is (each_kept p Q Q xs (λ x holds q. q) all)).0

-- ---- sorted lists

-- none of the later elements is below an earlier one
abbrev pub Rises : {X : Type 0} → (X → X → Bool) → List X → Type 0
Rises lt [] = Unit {0}
Rises lt (x ∷ xs) = AllByRecursion (λ y. lt y x ≡ false) xs × Rises lt xs

sorted_tail : {X : Type 0} (lt : X → X → Bool) (x : X) (xs : List X) → IsSortedBy lt (x ∷ xs) → IsSortedBy lt xs
sorted_tail {X} lt x xs sorted k d low high =
    let step : lt (get_or (x ∷ xs) (k + 1 + 1) d) (get_or (x ∷ xs) (k + 1) d) ≡ false = sorted (k + 1) d (omega arith) (omega arith) in
    let lower : lt (get_or (x ∷ xs) (k + 1 + 1) d) (get_or xs k d) ≡ false = subst (λ (i : ℕ). lt (get_or (x ∷ xs) (k + 1 + 1) d) (get_or (x ∷ xs) i d) ≡ false) (add-one k) step in
    subst (λ (i : ℕ). lt (get_or (x ∷ xs) i d) (get_or xs k d) ≡ false) (add-one (k + 1)) lower

pub rises_from_sorted : {X : Type 0} (lt : X → X → Bool) → IsStrictWeakOrder lt → (xs : List X) → IsSortedBy lt xs → Rises lt xs
rises_from_sorted lt order [] sorted = tt
rises_from_sorted lt order (x ∷ xs) sorted =
    (recursion_from_All (λ y. lt y x ≡ false) xs (λ k d small. sorted_far lt order (x ∷ xs) sorted 0 (suc k) d (omega arith) (omega arith)), rises_from_sorted lt order xs (sorted_tail lt x xs sorted))

-- the elements that a test keeps rise, also by another order that says no more of them
pub rises_kept : {X : Type 0} (p : X → Bool) (lt other : X → X → Bool) (xs : List X) → ((x y : X) → p x ≡ true → p y ≡ true → lt y x ≡ false → other y x ≡ false) → Rises lt xs → Rises other (filter p xs)
rises_kept p lt other [] to up = tt
rises_kept p lt other (x ∷ xs) to up =
    let rest = rises_kept p lt other xs to up.1 in
    cond_both (p x) (x ∷ filter p xs) (filter p xs) (Rises other)
    (λ holds. (each_kept p (λ y. lt y x ≡ false) (λ y. other y x ≡ false) xs (λ y kept above. to x y holds kept above) up.0, rest))
    (λ fails. rest)

-- the same where the test holds of each
pub rises_as : {X : Type 0} (p : X → Bool) (lt other : X → X → Bool) (xs : List X) → ((x y : X) → p x ≡ true → p y ≡ true → lt y x ≡ false → other y x ≡ false) → AllByRecursion (λ x. p x ≡ true) xs → Rises lt xs → Rises other xs
rises_as p lt other [] to all up = tt
rises_as {X} p lt other (x ∷ xs) to all up = (above xs all.1 up.0, rises_as p lt other xs to all.1 up.1)
  where
    above : (ys : List X) → AllByRecursion (λ y. p y ≡ true) ys → AllByRecursion (λ y. lt y x ≡ false) ys → AllByRecursion (λ y. other y x ≡ false) ys
    above [] kept low = tt
    above (y ∷ ys) kept low = (to x y all.0 kept.0 low.0, above ys kept.1 low.1)

-- ---- one list

not_below_itself : {X : Type 0} (lt : X → X → Bool) → IsStrictWeakOrder lt → (x : X) → lt x x ≡ false
not_below_itself lt order x = by (lt x x) refl
  where
    by : (b : Bool) → lt x x ≡ b → lt x x ≡ false
    by true holds = order.one_way x x holds
    by false fails = fails

tied : {X : Type 0} (lt : X → X → Bool) (x y : X) → lt x y ≡ false → lt y x ≡ false → ties lt x y ≡ true
tied lt x y one other = rw (one, other) refl

kept_first : {X : Type 0} (p : X → Bool) (x : X) (xs : List X) → p x ≡ true → filter p (x ∷ xs) ≡ x ∷ filter p xs
kept_first {X} p x xs holds = ap (λ (b : Bool). cond {A = List X} b (x ∷ filter p xs) (filter p xs)) holds

-- two tests' lists with one element in front that agree, agree behind it
behind_first : {X : Type 0} (p : X → Bool) (x : X) (xs ys : List X) → filter p (x ∷ xs) ≡ filter p (x ∷ ys) → filter p xs ≡ filter p ys
behind_first {X} p x xs ys is = by (p x) refl
  where
    whole : (b : Bool) → p x ≡ b → (l : List X) → filter p (x ∷ l) ≡ cond b (x ∷ filter p l) (filter p l)
    whole b here l = ap (λ (c : Bool). cond {A = List X} c (x ∷ filter p l) (filter p l)) here

    by : (b : Bool) → p x ≡ b → filter p xs ≡ filter p ys
    by true here = let both : x ∷ filter p xs ≡ x ∷ filter p ys = sym (whole true here xs) ∙ is ∙ whole true here ys in cc
    by false here = sym (whole false here xs) ∙ is ∙ whole false here ys

pub one_list : {X : Type 0} (lt : X → X → Bool) → IsStrictWeakOrder lt → (xs ys : List X) → Rises lt xs → Rises lt ys → ((z : X) → filter (ties lt z) xs ≡ filter (ties lt z) ys) → xs ≡ ys
one_list lt order [] [] up_x up_y alike = refl
one_list lt order [] (y ∷ ys) up_x up_y alike =
    let self = not_below_itself lt order y in
    let none : [] ≡ y ∷ filter (ties lt y) ys = alike y ∙ kept_first (ties lt y) y ys (tied lt y y self self) in
    absurd cc
one_list lt order (x ∷ xs) [] up_x up_y alike =
    let self = not_below_itself lt order x in
    let none : [] ≡ x ∷ filter (ties lt x) xs = sym (alike x) ∙ kept_first (ties lt x) x xs (tied lt x x self self) in
    absurd cc
one_list {X} lt order (x ∷ xs) (y ∷ ys) up_x up_y alike =
    let self_x = not_below_itself lt order x in
    let self_y = not_below_itself lt order y in
    let from_x : filter (ties lt x) (y ∷ ys) ≡ x ∷ filter (ties lt x) xs = sym (alike x) ∙ kept_first (ties lt x) x xs (tied lt x x self_x self_x) in
    let from_y : filter (ties lt y) (x ∷ xs) ≡ y ∷ filter (ties lt y) ys = alike y ∙ kept_first (ties lt y) y ys (tied lt y y self_y self_y) in
    let below_x : lt x y ≡ false = first_kept (λ z. lt z y ≡ false) (ties lt x) (y ∷ ys) x (filter (ties lt x) xs) (self_y, up_y.0) from_x in
    let below_y : lt y x ≡ false = first_kept (λ z. lt z x ≡ false) (ties lt y) (x ∷ xs) y (filter (ties lt y) ys) (self_x, up_x.0) from_y in
    let heads : x ∷ filter (ties lt x) xs ≡ y ∷ filter (ties lt x) ys = sym from_x ∙ kept_first (ties lt x) y ys (tied lt x y below_x below_y) in
    let same : x ≡ y = cc in
    let behind : (z : X) → filter (ties lt z) xs ≡ filter (ties lt z) ys = λ z. behind_first (ties lt z) x xs ys (alike z ∙ ap (λ (h : X). filter (ties lt z) (h ∷ ys)) (sym same)) in
    let rest : xs ≡ ys = one_list lt order xs ys up_x.1 up_y.1 behind in
    cc
