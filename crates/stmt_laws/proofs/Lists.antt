-- What holds of each element of a list holds of what is found, kept and put in order of it; and what holds of a value that
-- may not be there.
use Rattle.std.proofs.Common.{◌≡◌, Bool, List, [], ◌∷◌, map, Option, Some, None, refl, subst, inl, inr}
use Rattle.std.specs.Prelude.{ℤ, filter_map}
use Rattle.std.specs.List.{AllByRecursion, filter, find}
use Rattle.std.specs.Option.{option_and_then, option_map}
use Rattle.std.specs.Ordering.{int_cmp, is_le}
use Rattle.std.proofs.lemmas.Bool.{cases_Bool}
use Rattle.oid_groups.specs.Orders.{placed, by_number}
use Rattle.dep_sort.specs.FirstOrder.{placed as placed_by, in_order}

-- ---- a value that may not be there

abbrev pub Known : {A : Type 0} → (A → Type 0) → Option A → Type 0
Known P None = Unit {0}
Known P (Some x) = P x

pub known_so : {A : Type 0} (P : A → Type 0) (o : Option A) → ((x : A) → o ≡ Some x → P x) → Known P o
known_so P None h = tt
known_so P (Some x) h = h x refl

pub so_known : {A : Type 0} (P : A → Type 0) (o : Option A) (x : A) → Known P o → o ≡ Some x → P x
so_known P None x k e = absurd cc
so_known P (Some y) x k e = let same : y ≡ x = cc e in subst P same k

pub known_then : {A B : Type 0} (P : A → Type 0) (Q : B → Type 0) (f : A → Option B) (o : Option A) → Known P o → ((x : A) → P x → Known Q (f x)) → Known Q (option_and_then f o)
known_then P Q f None k h = tt
known_then P Q f (Some x) k h = h x k

pub known_map : {A B : Type 0} (P : A → Type 0) (Q : B → Type 0) (f : A → B) (o : Option A) → Known P o → ((x : A) → P x → Q (f x)) → Known Q (option_map f o)
known_map P Q f None k h = tt
known_map P Q f (Some x) k h = h x k

-- ---- lists

abbrev one_more : {B : Type 0} → Option B → List B → List B
one_more None ys = ys
one_more (Some y) ys = y ∷ ys

pub found_has : {A : Type 0} (P : A → Type 0) (p : A → Bool) (xs : List A) → AllByRecursion P xs → Known P (find p xs)
found_has P p [] all = tt
found_has P p (x ∷ xs) all = elim (cases_Bool (p x)) [ inl is ↦ rw is all.0 | inr isnt ↦ rw isnt (found_has P p xs all.1) ]

pub kept_have : {A : Type 0} (P : A → Type 0) (p : A → Bool) (xs : List A) → AllByRecursion P xs → AllByRecursion P (filter p xs)
kept_have P p [] all = tt
kept_have P p (x ∷ xs) all = elim (cases_Bool (p x)) [ inl is ↦ rw is (all.0, kept_have P p xs all.1) | inr isnt ↦ rw isnt (kept_have P p xs all.1) ]

placed_have : {A : Type 0} (P : A → Type 0) (number : A → ℤ) (x : A) (xs : List A) → P x → AllByRecursion P xs → AllByRecursion P (placed number x xs)
unfolding placed
placed_have P number x [] is all = (is, tt)
placed_have P number x (y ∷ ys) is all = elim (cases_Bool (is_le (int_cmp (number x) (number y)))) [ inl le ↦ rw le (is, all) | inr more ↦ rw more (all.0, placed_have P number x ys is all.1) ]

pub numbered_have : {A : Type 0} (P : A → Type 0) (number : A → ℤ) (xs : List A) → AllByRecursion P xs → AllByRecursion P (by_number number xs)
unfolding by_number
numbered_have P number [] all = tt
numbered_have P number (x ∷ xs) all = placed_have P number x (by_number number xs) all.0 (numbered_have P number xs all.1)

placed_by_have : {A : Type 0} (P : A → Type 0) (less : A → A → Bool) (x : A) (xs : List A) → P x → AllByRecursion P xs → AllByRecursion P (placed_by less x xs)
unfolding placed_by
placed_by_have P less x [] is all = (is, tt)
placed_by_have P less x (y ∷ ys) is all = elim (cases_Bool (less y x)) [ inl lt ↦ rw lt (all.0, placed_by_have P less x ys is all.1) | inr ge ↦ rw ge (is, all) ]

pub ordered_have : {A : Type 0} (P : A → Type 0) (less : A → A → Bool) (xs : List A) → AllByRecursion P xs → AllByRecursion P (in_order less xs)
unfolding in_order
ordered_have P less [] all = tt
ordered_have P less (x ∷ xs) all = placed_by_have P less x (in_order less xs) all.0 (ordered_have P less xs all.1)

chosen_more : {B : Type 0} (Q : B → Type 0) (o : Option B) (ys : List B) → Known Q o → AllByRecursion Q ys → AllByRecursion Q (one_more o ys)
chosen_more Q None ys k all = all
chosen_more Q (Some y) ys k all = (k, all)

pub chosen_have : {A B : Type 0} (P : A → Type 0) (Q : B → Type 0) (f : A → Option B) (xs : List A) → AllByRecursion P xs → ((x : A) → P x → Known Q (f x)) → AllByRecursion Q (filter_map f xs)
chosen_have P Q f [] all h = tt
chosen_have P Q f (x ∷ xs) all h = chosen_more Q (f x) (filter_map f xs) (h x all.0) (chosen_have P Q f xs all.1 h)

pub seen_have : {A B : Type 0} (P : A → Type 0) (Q : B → Type 0) (f : A → B) (xs : List A) → AllByRecursion P xs → ((x : A) → P x → Q (f x)) → AllByRecursion Q (map f xs)
seen_have P Q f [] all h = tt
seen_have P Q f (x ∷ xs) all h = (h x all.0, seen_have P Q f xs all.1 h)

-- what holds of each value that is seen
pub seen_so : {A B : Type 0} (Q : B → Type 0) (f : A → B) (xs : List A) → AllByRecursion Q (map f xs) → AllByRecursion (λ x. Q (f x)) xs
seen_so Q f [] all = tt
seen_so Q f (x ∷ xs) all = (all.0, seen_so Q f xs all.1)
