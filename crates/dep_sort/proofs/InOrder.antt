-- There is one list in order with the elements of another that keeps what ties in its order.
use Rattle.std.proofs.Common.{◌≡◌, ℕ, suc, ◌<◌, ◌≤◌, Bool, true, false, cond, List, [], ◌∷◌, length, get_or, refl, sym, ap, subst, ◌∙◌, arith, inl, inr}
use Rattle.std.specs.List.{filter}
use Rattle.std.specs.List.Sorted.{IsSortedBy, ties}
use Rattle.std.specs.Cmp.{IsStrictWeakOrder}
use Rattle.std.proofs.lemmas.Bool.{cases_Bool, false≢true}
use Rattle.std.proofs.lemmas.List.Sorted.{sorted_far}
use Rattle.dep_sort.specs.FirstOrder.{placed, in_order}

-- none of the list is less than x
abbrev NoneLess : {X : Type 0} → (X → X → Bool) → X → List X → Type 0
NoneLess less x [] = Unit {0}
NoneLess less x (y ∷ ys) = (less y x ≡ false) × NoneLess less x ys

-- none is less than one before it
abbrev Rises : {X : Type 0} → (X → X → Bool) → List X → Type 0
Rises less [] = Unit {0}
Rises less (x ∷ xs) = NoneLess less x xs × Rises less xs

-- ---- from a sort

none_from : {X : Type 0} (less : X → X → Bool) (x : X) (ys : List X) → ((j : ℕ) → j < length ys → less (get_or ys j x) x ≡ false) → NoneLess less x ys
none_from less x [] h = tt
none_from less x (y ∷ ys) h = (h 0 (omega arith), none_from less x ys (λ j lt. h (suc j) (omega arith)))

rises_from : {X : Type 0} (less : X → X → Bool) (xs : List X) → ((i j : ℕ) (d : X) → i ≤ j → j < length xs → less (get_or xs j d) (get_or xs i d) ≡ false) → Rises less xs
rises_from less [] far = tt
rises_from less (x ∷ xs) far =
    (none_from less x xs (λ j lt. far 0 (suc j) x (omega arith) (omega arith)), rises_from less xs (λ i j d le lt. far (suc i) (suc j) d (omega arith) (omega arith)))

-- ---- lists in order that agree on what ties

never_less : {X : Type 0} (less : X → X → Bool) → IsStrictWeakOrder less → (x : X) → less x x ≡ false
never_less less o x = elim (cases_Bool (less x x)) [ inl is ↦ o.one_way x x is | inr isnt ↦ isnt ]

ties_both : {X : Type 0} (less : X → X → Bool) (x y : X) → less x y ≡ false → less y x ≡ false → ties less x y ≡ true
ties_both less x y a b = rw (a, b) refl

passes : {X : Type 0} (p : X → Bool) (x : X) (xs : List X) → p x ≡ true → filter p (x ∷ xs) ≡ x ∷ filter p xs
passes p x xs e = rw e refl

fails : {X : Type 0} (p : X → Bool) (x : X) (xs : List X) → p x ≡ false → filter p (x ∷ xs) ≡ filter p xs
fails p x xs e = rw e refl

-- what is first among those that pass isn't less than y
first_not_less : {X : Type 0} (less : X → X → Bool) (p : X → Bool) (x y : X) (vs more : List X) → filter p vs ≡ x ∷ more → NoneLess less y vs → less x y ≡ false
first_not_less less p x y [] more e none = absurd cc
first_not_less less p x y (b ∷ vs) more e none =
    elim (cases_Bool (p b)) [
      | inl is ↦
          let same : b ≡ x = let all = sym (passes p b vs is) ∙ e in cc in
          subst (λ v. less v y ≡ false) same none.0
      | inr isnt ↦ first_not_less less p x y vs more (sym (fails p b vs isnt) ∙ e) none.1
    ]

cancelled : {X : Type 0} (p : X → Bool) (x : X) (us vs : List X) → filter p (x ∷ us) ≡ filter p (x ∷ vs) → filter p us ≡ filter p vs
cancelled p x us vs e =
    elim (cases_Bool (p x)) [
      | inl is ↦ let all = sym (passes p x us is) ∙ e ∙ passes p x vs is in cc
      | inr isnt ↦ sym (fails p x us isnt) ∙ e ∙ fails p x vs isnt
    ]

pub one_order : {X : Type 0} (less : X → X → Bool) → IsStrictWeakOrder less → (us vs : List X) → Rises less us → Rises less vs → ((z : X) → filter (ties less z) us ≡ filter (ties less z) vs) → us ≡ vs
one_order less o [] [] ra rb h = refl
one_order less o [] (y ∷ vs) ra rb h =
    let e = h y ∙ passes (ties less y) y vs (ties_both less y y (never_less less o y) (never_less less o y)) in absurd cc
one_order less o (x ∷ us) [] ra rb h =
    let e = sym (h x) ∙ passes (ties less x) x us (ties_both less x x (never_less less o x) (never_less less o x)) in absurd cc
one_order less o (x ∷ us) (y ∷ vs) ra rb h =
    let xx = ties_both less x x (never_less less o x) (never_less less o x) in
    let yy = ties_both less y y (never_less less o y) (never_less less o y) in
    let x_y = first_not_less less (ties less x) x y (y ∷ vs) (filter (ties less x) us) (sym (h x) ∙ passes (ties less x) x us xx) (never_less less o y, rb.0) in
    let y_x = first_not_less less (ties less y) y x (x ∷ us) (filter (ties less y) vs) (h y ∙ passes (ties less y) y vs yy) (never_less less o x, ra.0) in
    let heads = sym (passes (ties less x) x us xx) ∙ h x ∙ passes (ties less x) y vs (ties_both less x y x_y y_x) in
    let same : y ≡ x = cc in
    let rest = one_order less o us vs ra.1 rb.1 (λ z. cancelled (ties less z) x us vs (h z ∙ ap (λ b. filter (ties less z) (b ∷ vs)) same)) in
    cc

-- ---- the list in order

placed_none : {X : Type 0} (less : X → X → Bool) (z x : X) (ys : List X) → less x z ≡ false → NoneLess less z ys → NoneLess less z (placed less x ys)
unfolding placed
placed_none less z x [] e none = (e, tt)
placed_none less z x (y ∷ ys) e none =
    elim (cases_Bool (less y x)) [
      | inl is ↦ rw is (none.0, placed_none less z x ys e none.1)
      | inr isnt ↦ rw isnt (e, none)
    ]

none_behind : {X : Type 0} (less : X → X → Bool) → IsStrictWeakOrder less → (x y : X) (ys : List X) → less y x ≡ false → NoneLess less y ys → NoneLess less x ys
none_behind less o x y [] e none = tt
none_behind less o x y (z ∷ ys) e none = (o.chain z y x none.0 e, none_behind less o x y ys e none.1)

placed_rises : {X : Type 0} (less : X → X → Bool) → IsStrictWeakOrder less → (x : X) (ys : List X) → Rises less ys → Rises less (placed less x ys)
unfolding placed
placed_rises less o x [] r = (tt, tt)
placed_rises less o x (y ∷ ys) r =
    elim (cases_Bool (less y x)) [
      | inl is ↦ rw is (placed_none less y x ys (o.one_way y x is) r.0, placed_rises less o x ys r.1)
      | inr isnt ↦ rw isnt ((isnt, none_behind less o x y ys isnt r.0), r)
    ]

pub in_order_rises : {X : Type 0} (less : X → X → Bool) → IsStrictWeakOrder less → (xs : List X) → Rises less (in_order less xs)
unfolding in_order
in_order_rises less o [] = tt
in_order_rises less o (x ∷ xs) = placed_rises less o x (in_order less xs) (in_order_rises less o xs)

tied_parts : {X : Type 0} (less : X → X → Bool) (x y : X) → ties less x y ≡ true → (less x y ≡ false) × (less y x ≡ false)
tied_parts less x y e =
    elim (cases_Bool (less x y)) [
      | inl is ↦ absurd (false≢true (rw is at e))
      | inr isnt ↦
          elim (cases_Bool (less y x)) [
            | inl is ↦ absurd (false≢true (rw (isnt, is) at e))
            | inr other ↦ (isnt, other)
          ]
    ]

-- y moves before x, where they don't both tie with z
swapped : {X : Type 0} (less : X → X → Bool) → IsStrictWeakOrder less → (z x y : X) (ys : List X) → less y x ≡ true → filter (ties less z) (y ∷ x ∷ ys) ≡ filter (ties less z) (x ∷ y ∷ ys)
swapped less o z x y ys is =
    elim (cases_Bool (ties less z y)) [
      | inl zy ↦
          elim (cases_Bool (ties less z x)) [
            | inl zx ↦
                let never = o.chain y z x (tied_parts less z y zy).1 (tied_parts less z x zx).0 in
                absurd (false≢true (sym never ∙ is))
            | inr zx ↦ rw (zy, zx) refl
          ]
      | inr zy ↦ rw zy refl
    ]

placed_keeps : {X : Type 0} (less : X → X → Bool) → IsStrictWeakOrder less → (z x : X) (ys : List X) → filter (ties less z) (placed less x ys) ≡ filter (ties less z) (x ∷ ys)
unfolding placed
placed_keeps less o z x [] = refl
placed_keeps {X} less o z x (y ∷ ys) =
    elim (cases_Bool (less y x)) [
      | inl is ↦ rw is (ap (λ (rest : List X). cond (ties less z y) (y ∷ rest) rest) (placed_keeps less o z x ys) ∙ swapped less o z x y ys is)
      | inr isnt ↦ rw isnt refl
    ]

pub in_order_keeps : {X : Type 0} (less : X → X → Bool) → IsStrictWeakOrder less → (z : X) (xs : List X) → filter (ties less z) (in_order less xs) ≡ filter (ties less z) xs
unfolding in_order
in_order_keeps less o z [] = refl
in_order_keeps {X} less o z (x ∷ xs) =
    placed_keeps less o z x (in_order less xs) ∙ ap (λ (rest : List X). cond (ties less z x) (x ∷ rest) rest) (in_order_keeps less o z xs)

-- what a stable sort gives is the list in order
pub sort_gives : {X : Type 0} (less : X → X → Bool) → IsStrictWeakOrder less → (xs ys : List X) → IsSortedBy less ys → ((z : X) → filter (ties less z) ys ≡ filter (ties less z) xs) → ys ≡ in_order less xs
sort_gives less o xs ys sorted stable =
    one_order less o ys (in_order less xs) (rises_from less ys (sorted_far less o ys sorted)) (in_order_rises less o xs) (λ z. stable z ∙ sym (in_order_keeps less o z xs))
