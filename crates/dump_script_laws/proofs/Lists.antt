-- What holds of each element of a list that was put together holds of each of its parts, and what is found by a place.
use Rattle.std.proofs.Common.{◌≡◌, ℕ, zero, suc, ◌<◌, Bool, true, false, List, [], ◌∷◌, map, Option, Some, None, refl, ap, ◌∙◌, arith}
use Rattle.std.specs.Prelude.{filter_map}
use Rattle.std.specs.List.{AllByRecursion, cons_option, find, flat_map, slice_get}
use Rattle.std.specs.Option.{ForSome, option_and_then, option_map}
use Rattle.cat_book.specs.Meets.{EachRow}
use Rattle.stmt_laws.proofs.Lists.{Known, so_known}
use Rattle.toc_laws.proofs.Remarks.{both_have}

-- ---- values that may not be there

pub for_known : {A : Type 0} (P : A → Type 0) (o : Option A) → Known P o → ForSome o P
for_known P o k = λ x e. so_known P o x k e

pub for_none : {A : Type 0} (P : A → Type 0) → ForSome None P
for_none P = λ x e. absurd cc

pub any_then : {A B : Type 0} (Q : B → Type 0) (f : A → Option B) → ((x : A) → Known Q (f x)) → (o : Option A) → Known Q (option_and_then f o)
any_then Q f h None = tt
any_then Q f h (Some x) = h x

pub any_map : {A B : Type 0} (Q : B → Type 0) (f : A → B) → ((x : A) → Q (f x)) → (o : Option A) → Known Q (option_map f o)
any_map Q f h None = tt
any_map Q f h (Some x) = h x

-- ---- lists

pub each_all : {R : Type 0} (P : R → Type 0) (rows : List R) → EachRow P rows → AllByRecursion P rows
each_all P [] each = tt
each_all P (r ∷ rows) each = (each 0 r refl, each_all P rows (λ i row at. each (suc i) row at))

-- what follows of two facts of each
pub two_have : {A : Type 0} (P Q R : A → Type 0) (xs : List A) → ((x : A) → P x → Q x → R x) → AllByRecursion P xs → AllByRecursion Q xs → AllByRecursion R xs
two_have P Q R [] h p q = tt
two_have P Q R (x ∷ xs) h p q = (h x p.0 q.0, two_have P Q R xs h p.1 q.1)

pub any_seen : {A B : Type 0} (Q : B → Type 0) (f : A → B) → ((x : A) → Q (f x)) → (xs : List A) → AllByRecursion Q (map f xs)
any_seen Q f h [] = tt
any_seen Q f h (x ∷ xs) = (h x, any_seen Q f h xs)

pub any_flat : {A B : Type 0} (Q : B → Type 0) (f : A → List B) → ((x : A) → AllByRecursion Q (f x)) → (xs : List A) → AllByRecursion Q (flat_map f xs)
any_flat Q f h [] = tt
any_flat Q f h (x ∷ xs) = both_have Q (f x) (flat_map f xs) (h x) (any_flat Q f h xs)

chosen_more : {B : Type 0} (Q : B → Type 0) (o : Option B) (ys : List B) → Known Q o → AllByRecursion Q ys → AllByRecursion Q (cons_option o ys)
chosen_more Q None ys k all = all
chosen_more Q (Some y) ys k all = (k, all)

pub any_chosen : {A B : Type 0} (Q : B → Type 0) (f : A → Option B) → ((x : A) → Known Q (f x)) → (xs : List A) → AllByRecursion Q (filter_map f xs)
any_chosen Q f h [] = tt
any_chosen Q f h (x ∷ xs) = chosen_more Q (f x) (filter_map f xs) (h x) (any_chosen Q f h xs)

pub got_has : {A : Type 0} (P : A → Type 0) (xs : List A) → AllByRecursion P xs → (i : ℕ) → Known P (slice_get xs i)
got_has P [] all i = tt
got_has P (x ∷ xs) all zero = all.0
got_has P (x ∷ xs) all (suc i) = got_has P xs all.1 i

-- ---- the first that passes a test

pub find_at : {A : Type 0} (p : A → Bool) (xs : List A) (i : ℕ) (x : A) → slice_get xs i ≡ Some x → p x ≡ true → ((j : ℕ) (y : A) → j < i → slice_get xs j ≡ Some y → p y ≡ false) → find p xs ≡ Some x
find_at p [] i x at is before = absurd cc
find_at {A} p (y ∷ xs) zero x at is before = let same : y ≡ x = cc in let here : p y ≡ true = ap p same ∙ is in rw here (ap (λ (z : A). Some z) same)
find_at p (y ∷ xs) (suc i) x at is before = let no : p y ≡ false = before 0 y (omega arith) refl in rw no (find_at p xs i x at is (λ j z lt e. before (suc j) z (omega arith) e))
