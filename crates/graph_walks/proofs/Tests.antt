-- Tests that hold, and places in lists.
use Rattle.std.proofs.Common.{◌≡◌, ℕ, zero, suc, ◌+◌, ◌<◌, ◌≤◌, Bool, true, false, List, [], ◌∷◌, ◌++◌, Some, None, inl, inr, refl, sym, ap, ◌∙◌, subst, arith}
use Rattle.std.specs.Prelude.{◌&&◌, ◌||◌, ◌⊎◌, nat_eq, not, reverse}
use Rattle.std.specs.List.{AllByRecursion, filter, find, list_any, range_with_len}
use Rattle.std.proofs.lemmas.Bool.{false≢true, cases_Bool, cases_eq, eqb-true, eq-eqb}
use Rattle.std.proofs.lemmas.List.{reverse-append}
use Rattle.graph_walks.specs.Arcs.{Arc, needs, is_in}
use Rattle.graph_walks.proofs.Ascending.{Ascends, each_kept}

pub either : (a b : Bool) → (a || b) ≡ true → (a ≡ true) ⊎ (b ≡ true)
either true b h = inl refl
either false b h = inr h

pub both : (a b : Bool) → (a && b) ≡ true → (a ≡ true) × (b ≡ true)
both true b h = (refl, h)
both false b h = absurd (false≢true h)

pub and_true : (a b : Bool) → a ≡ true → b ≡ true → (a && b) ≡ true
and_true a b h k = rw (h, k) refl

pub or_left : (a b : Bool) → a ≡ true → (a || b) ≡ true
or_left a b h = rw h refl

pub or_right : (a b : Bool) → b ≡ true → (a || b) ≡ true
or_right true b h = refl
or_right false b h = h

pub not_true : (a : Bool) → not a ≡ true → a ≡ false
not_true true h = absurd (false≢true h)
not_true false h = refl

pub not_false : (a : Bool) → not a ≡ false → a ≡ true
not_false true h = refl
not_false false h = absurd (false≢true (sym h))

-- two tests that hold of each other's cases are one
pub one_test : (a b : Bool) → (a ≡ true → b ≡ true) → (b ≡ true → a ≡ true) → a ≡ b
one_test true b h k = sym (h refl)
one_test false true h k = k refl
one_test false false h k = refl

-- ---- places in lists

pub in_left : (x : ℕ) (xs ys : List ℕ) → is_in x xs ≡ true → is_in x (xs ++ ys) ≡ true
in_left x [] ys h = absurd (false≢true h)
in_left x (y ∷ xs) ys h =
    elim (either (nat_eq x y) (is_in x xs) h) [
      | inl is ↦ or_left (nat_eq x y) (is_in x (xs ++ ys)) is
      | inr more ↦ or_right (nat_eq x y) (is_in x (xs ++ ys)) (in_left x xs ys more)
    ]

pub in_right : (x : ℕ) (xs ys : List ℕ) → is_in x ys ≡ true → is_in x (xs ++ ys) ≡ true
in_right x [] ys h = h
in_right x (y ∷ xs) ys h = or_right (nat_eq x y) (is_in x (xs ++ ys)) (in_right x xs ys h)

pub in_either : (x : ℕ) (xs ys : List ℕ) → is_in x (xs ++ ys) ≡ true → (is_in x xs ≡ true) ⊎ (is_in x ys ≡ true)
in_either x [] ys h = inr h
in_either x (y ∷ xs) ys h =
    elim (either (nat_eq x y) (is_in x (xs ++ ys)) h) [
      | inl is ↦ inl (or_left (nat_eq x y) (is_in x xs) is)
      | inr more ↦ elim (in_either x xs ys more) [ inl left ↦ inl (or_right (nat_eq x y) (is_in x xs) left) | inr right ↦ inr right ]
    ]

-- what holds of each of some places holds of one of them
pub holds_in : (P : ℕ → Type 0) (x : ℕ) (xs : List ℕ) → AllByRecursion P xs → is_in x xs ≡ true → P x
holds_in P x [] all h = absurd (false≢true h)
holds_in P x (y ∷ xs) all h =
    elim (either (nat_eq x y) (is_in x xs) h) [
      | inl is ↦ subst P (sym (eqb-true x y is)) all.0
      | inr more ↦ holds_in P x xs all.1 more
    ]

pub each_in : (P : ℕ → Type 0) (xs : List ℕ) → ((x : ℕ) → is_in x xs ≡ true → P x) → AllByRecursion P xs
each_in P [] all = tt
each_in P (y ∷ xs) all =
    (all y (or_left (nat_eq y y) (is_in y xs) (eq-eqb y y refl)), each_in P xs (λ x h. all x (or_right (nat_eq x y) (is_in x xs) h)))

pub each_weaker : {X : Type 0} (P Q : X → Type 0) (xs : List X) → ((x : X) → P x → Q x) → AllByRecursion P xs → AllByRecursion Q xs
each_weaker P Q [] to all = tt
each_weaker P Q (x ∷ xs) to all = (to x all.0, each_weaker P Q xs to all.1)

pub each_joined : {X : Type 0} (P : X → Type 0) (xs ys : List X) → AllByRecursion P xs → AllByRecursion P ys → AllByRecursion P (xs ++ ys)
each_joined P [] ys all more = more
each_joined P (x ∷ xs) ys all more = (all.0, each_joined P xs ys all.1 more)

-- ---- arcs in lists

-- what holds of each of some arcs holds of one of them
pub holds_of_arc : (P : ℕ → ℕ → Type 0) (arcs : List Arc) → AllByRecursion (λ arc. P arc.0 arc.1) arcs → (a b : ℕ) → needs arcs a b ≡ true → P a b
holds_of_arc P [] all a b h = absurd (false≢true h)
holds_of_arc P (arc ∷ arcs) all a b h =
    elim (either (nat_eq arc.0 a && nat_eq arc.1 b) (needs arcs a b) h) [
      | inl is ↦
          let ends = both (nat_eq arc.0 a) (nat_eq arc.1 b) is in
          subst (λ (n : ℕ). P n b) (eqb-true arc.0 a ends.0) (subst (λ (n : ℕ). P arc.0 n) (eqb-true arc.1 b ends.1) all.0)
      | inr more ↦ holds_of_arc P arcs all.1 a b more
    ]

pub each_arc : (P : ℕ → ℕ → Type 0) (arcs : List Arc) → ((a b : ℕ) → needs arcs a b ≡ true → P a b) → AllByRecursion (λ arc. P arc.0 arc.1) arcs
each_arc P [] all = tt
each_arc P (arc ∷ arcs) all = (
  all arc.0 arc.1 (or_left (nat_eq arc.0 arc.0 && nat_eq arc.1 arc.1) (needs arcs arc.0 arc.1) (and_true (nat_eq arc.0 arc.0) (nat_eq arc.1 arc.1) (eq-eqb arc.0 arc.0 refl) (eq-eqb arc.1 arc.1 refl))),
  each_arc P arcs (λ a b h. all a b (or_right (nat_eq arc.0 a && nat_eq arc.1 b) (needs arcs a b) h)),
)

-- ---- places that a test keeps

pub in_kept : (p : ℕ → Bool) (x : ℕ) (xs : List ℕ) → is_in x xs ≡ true → p x ≡ true → is_in x (filter p xs) ≡ true
in_kept p x [] h k = absurd (false≢true h)
in_kept p x (y ∷ xs) h k =
    elim (either (nat_eq x y) (is_in x xs) h) [
      | inl is ↦
          let here : p y ≡ true = subst (λ (n : ℕ). p n ≡ true) (eqb-true x y is) k in
          rw here (or_left (nat_eq x y) (is_in x (filter p xs)) is)
      | inr more ↦
          let rest : is_in x (filter p xs) ≡ true = in_kept p x xs more k in
          elim (cases_Bool (p y)) [
            | inl here ↦ rw here (or_right (nat_eq x y) (is_in x (filter p xs)) rest)
            | inr none ↦ rw none rest
          ]
    ]

pub from_kept : (p : ℕ → Bool) (x : ℕ) (xs : List ℕ) → is_in x (filter p xs) ≡ true → (is_in x xs ≡ true) × (p x ≡ true)
from_kept p x xs h =
    holds_in (λ y. (is_in y xs ≡ true) × (p y ≡ true)) x (filter p xs)
    (each_kept p (λ y. is_in y xs ≡ true) (λ y. (is_in y xs ≡ true) × (p y ≡ true)) xs (λ y kept in'. (in', kept)) (each_in (λ y. is_in y xs ≡ true) xs (λ y in'. in')))
    h

pub is_in-append : (x : ℕ) (xs ys : List ℕ) → is_in x (xs ++ ys) ≡ (is_in x xs || is_in x ys)
is_in-append x xs ys =
    one_test (is_in x (xs ++ ys)) (is_in x xs || is_in x ys)
    (λ h. elim (in_either x xs ys h) [ inl left ↦ or_left (is_in x xs) (is_in x ys) left | inr right ↦ or_right (is_in x xs) (is_in x ys) right ])
    (λ h. elim (either (is_in x xs) (is_in x ys) h) [ inl left ↦ in_left x xs ys left | inr right ↦ in_right x xs ys right ])

pub in_range : (a n x : ℕ) → a ≤ x → x < a + n → is_in x (range_with_len a n) ≡ true
in_range a zero x low high = absurd (omega arith)
in_range a (suc n) x low high =
    elim (cases_eq x a) [
      | inl same ↦ or_left (nat_eq x a) (is_in x (range_with_len (a + 1) n)) (eq-eqb x a same)
      | inr other ↦ or_right (nat_eq x a) (is_in x (range_with_len (a + 1) n)) (in_range (a + 1) n x (omega arith) (omega arith))
    ]

pub range_low : (a n : ℕ) → AllByRecursion (λ x. a ≤ x) (range_with_len a n)
range_low a zero = tt
range_low a (suc n) = (omega arith, each_weaker (λ x. a + 1 ≤ x) (λ x. a ≤ x) (range_with_len (a + 1) n) (λ x h. omega arith) (range_low (a + 1) n))

pub range_high : (a n : ℕ) → AllByRecursion (λ x. x < a + n) (range_with_len a n)
range_high a zero = tt
range_high a (suc n) = (omega arith, each_weaker (λ x. x < a + 1 + n) (λ x. x < a + suc n) (range_with_len (a + 1) n) (λ x h. omega arith) (range_high (a + 1) n))

pub from_range : (n x : ℕ) → is_in x (range_with_len 0 n) ≡ true → x < n
from_range n x h = let low : x < 0 + n = holds_in (λ y. y < 0 + n) x (range_with_len 0 n) (range_high 0 n) h in omega arith

pub range_ascends : (a n : ℕ) → Ascends (λ x y. x < y) (range_with_len a n)
range_ascends a zero = tt
range_ascends a (suc n) =
    (each_weaker (λ x. a + 1 ≤ x) (λ x. a < x) (range_with_len (a + 1) n) (λ x h. omega arith) (range_low (a + 1) n), range_ascends (a + 1) n)

pub any_from : (p : ℕ → Bool) (x : ℕ) (xs : List ℕ) → is_in x xs ≡ true → p x ≡ true → list_any p xs ≡ true
any_from p x [] h k = absurd (false≢true h)
any_from p x (y ∷ xs) h k =
    elim (either (nat_eq x y) (is_in x xs) h) [
      | inl is ↦ or_left (p y) (list_any p xs) (subst (λ (n : ℕ). p n ≡ true) (eqb-true x y is) k)
      | inr more ↦ or_right (p y) (list_any p xs) (any_from p x xs more k)
    ]

pub some_of : (p : ℕ → Bool) (xs : List ℕ) → list_any p xs ≡ true → (x : ℕ) × (is_in x xs ≡ true) × (p x ≡ true)
some_of p [] h = absurd (false≢true h)
some_of p (y ∷ xs) h =
    elim (either (p y) (list_any p xs) h) [
      | inl is ↦ (y, or_left (nat_eq y y) (is_in y xs) (eq-eqb y y refl), is)
      | inr more ↦ let found = some_of p xs more in (found.0, or_right (nat_eq found.0 y) (is_in found.0 xs) found.1, found.2)
    ]

-- ---- the first that passes

pub find_front : (p : ℕ → Bool) (xs ys : List ℕ) (x : ℕ) → find p xs ≡ Some x → find p (xs ++ ys) ≡ Some x
find_front p [] ys x h = absurd cc
find_front p (z ∷ xs) ys x h =
    elim (cases_Bool (p z)) [
      | inl is ↦ let here : Some z ≡ Some x = rw is at h in rw is here
      | inr isnt ↦ let more : find p xs ≡ Some x = rw isnt at h in rw isnt (find_front p xs ys x more)
    ]

pub find_back : (p : ℕ → Bool) (xs ys : List ℕ) → find p xs ≡ None → find p (xs ++ ys) ≡ find p ys
find_back p [] ys h = refl
find_back p (z ∷ xs) ys h =
    elim (cases_Bool (p z)) [
      | inl is ↦ let here : Some z ≡ None = rw is at h in absurd cc
      | inr isnt ↦ let more : find p xs ≡ None = rw isnt at h in rw isnt (find_back p xs ys more)
    ]

pub found_in : (p : ℕ → Bool) (xs : List ℕ) (x : ℕ) → find p xs ≡ Some x → (is_in x xs ≡ true) × (p x ≡ true)
found_in p [] x h = absurd cc
found_in p (z ∷ xs) x h =
    elim (cases_Bool (p z)) [
      | inl is ↦ let here : Some z ≡ Some x = rw is at h in let same : z ≡ x = cc in
          (or_left (nat_eq x z) (is_in x xs) (eq-eqb x z (sym same)), subst (λ (n : ℕ). p n ≡ true) same is)
      | inr isnt ↦ let more : find p xs ≡ Some x = rw isnt at h in let rest = found_in p xs x more in
          (or_right (nat_eq x z) (is_in x xs) rest.0, rest.1)
    ]

pub find_none : (p : ℕ → Bool) (xs : List ℕ) → AllByRecursion (λ x. p x ≡ false) xs → find p xs ≡ None
find_none p [] all = refl
find_none p (z ∷ xs) all = let here : p z ≡ false = all.0 in rw here (find_none p xs all.1)

pub find_last_none : (p : ℕ → Bool) (xs : List ℕ) → AllByRecursion (λ x. p x ≡ false) xs → find p (reverse xs) ≡ None
find_last_none p [] all = refl
find_last_none p (z ∷ xs) all =
    let here : p z ≡ false = all.0 in
    let apart : reverse (z ∷ xs) ≡ reverse xs ++ z ∷ [] = reverse-append (z ∷ []) xs in
    let end : find p (z ∷ []) ≡ None = rw here refl in
    subst (λ (l : List ℕ). find p l ≡ None) (sym apart) (find_back p (reverse xs) (z ∷ []) (find_last_none p xs all.1) ∙ end)

-- the last that passes, in a list whose numbers rise, is the greatest that does
pub find_last : (p : ℕ → Bool) (xs : List ℕ) (x : ℕ) → Ascends (λ a b. a < b) xs → is_in x xs ≡ true → p x ≡ true → ((y : ℕ) → is_in y xs ≡ true → p y ≡ true → y ≤ x) → find p (reverse xs) ≡ Some x
find_last p [] x up h k most = absurd (false≢true h)
find_last p (z ∷ xs) x up h k most =
    let apart : reverse (z ∷ xs) ≡ reverse xs ++ z ∷ [] = reverse-append (z ∷ []) xs in
    elim (either (nat_eq x z) (is_in x xs) h) [
      | inl is ↦
          let same : x ≡ z = eqb-true x z is in
          let none : AllByRecursion (λ y. p y ≡ false) xs = each_in (λ y. p y ≡ false) xs (λ y in'. later y in' same) in
          let end : find p (z ∷ []) ≡ Some x = let here : p z ≡ true = subst (λ (n : ℕ). p n ≡ true) same k in rw here (ap Some (sym same)) in
          subst (λ (l : List ℕ). find p l ≡ Some x) (sym apart) (find_back p (reverse xs) (z ∷ []) (find_last_none p xs none) ∙ end)
      | inr more ↦
          let rest : find p (reverse xs) ≡ Some x = find_last p xs x up.1 more k (λ y in' passes. most y (or_right (nat_eq y z) (is_in y xs) in') passes) in
          subst (λ (l : List ℕ). find p l ≡ Some x) (sym apart) (find_front p (reverse xs) (z ∷ []) x rest)
    ]
  where
    later : (y : ℕ) → is_in y xs ≡ true → x ≡ z → p y ≡ false
    later y in' same =
        let above : z < y = holds_in (λ y. z < y) y xs up.0 in' in
        elim (cases_Bool (p y)) [
          | inl passes ↦ let low : y ≤ x = most y (or_right (nat_eq y z) (is_in y xs) in') passes in absurd (omega arith)
          | inr none ↦ none
        ]
