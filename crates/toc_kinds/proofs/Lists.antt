-- What holds of all elements of lists that were put together, and of values that may not be there.
use Rattle.std.proofs.Common.{ℕ, zero, suc, List, [], ◌∷◌, ◌++◌, map, reverse, take, Option, Some, None, sym, subst}
use Rattle.std.specs.Prelude.{filter_map}
use Rattle.std.specs.List.{AllByRecursion, cons_option, flat_map, slice_get}
use Rattle.std.specs.Option.{option_and_then, option_map, option_to_list}
use Rattle.std.proofs.lemmas.List.{reverse-append}

abbrev pub Known : {A : Type 0} → (A → Type 0) → Option A → Type 0
Known P None = Unit {0}
Known P (Some x) = P x

pub known_map : {A B : Type 0} (Q : B → Type 0) (f : A → B) → ((x : A) → Q (f x)) → (o : Option A) → Known Q (option_map f o)
known_map Q f h None = tt
known_map Q f h (Some x) = h x

pub known_then : {A B : Type 0} (Q : B → Type 0) (f : A → Option B) → ((x : A) → Known Q (f x)) → (o : Option A) → Known Q (option_and_then f o)
known_then Q f h None = tt
known_then Q f h (Some x) = h x

pub listed : {A : Type 0} (P : A → Type 0) (o : Option A) → Known P o → AllByRecursion P (option_to_list o)
listed P None k = tt
listed P (Some x) k = (k, tt)

pub both : {A : Type 0} (P : A → Type 0) (xs ys : List A) → AllByRecursion P xs → AllByRecursion P ys → AllByRecursion P (xs ++ ys)
both P [] ys h k = k
both P (x ∷ xs) ys h k = (h.0, both P xs ys h.1 k)

pub mapped : {A B : Type 0} (Q : B → Type 0) (f : A → B) → ((x : A) → Q (f x)) → (xs : List A) → AllByRecursion Q (map f xs)
mapped Q f h [] = tt
mapped Q f h (x ∷ xs) = (h x, mapped Q f h xs)

pub joined : {A B : Type 0} (Q : B → Type 0) (f : A → List B) → ((x : A) → AllByRecursion Q (f x)) → (xs : List A) → AllByRecursion Q (flat_map f xs)
joined Q f h [] = tt
joined Q f h (x ∷ xs) = both Q (f x) (flat_map f xs) (h x) (joined Q f h xs)

one_more : {B : Type 0} (Q : B → Type 0) (o : Option B) (ys : List B) → Known Q o → AllByRecursion Q ys → AllByRecursion Q (cons_option o ys)
one_more Q None ys k all = all
one_more Q (Some y) ys k all = (k, all)

pub chosen : {A B : Type 0} (Q : B → Type 0) (f : A → Option B) → ((x : A) → Known Q (f x)) → (xs : List A) → AllByRecursion Q (filter_map f xs)
chosen Q f h [] = tt
chosen Q f h (x ∷ xs) = one_more Q (f x) (filter_map f xs) (h x) (chosen Q f h xs)

pub at_place : {A : Type 0} (P : A → Type 0) (xs : List A) → AllByRecursion P xs → (i : ℕ) → Known P (slice_get xs i)
at_place P [] all i = tt
at_place P (x ∷ xs) all zero = all.0
at_place P (x ∷ xs) all (suc i) = at_place P xs all.1 i

pub turned : {A : Type 0} (P : A → Type 0) (xs : List A) → AllByRecursion P xs → AllByRecursion P (reverse xs)
turned P [] all = tt
turned P (x ∷ xs) all = subst (AllByRecursion P) (sym (reverse-append (x ∷ []) xs)) (both P (reverse xs) (x ∷ []) (turned P xs all.1) (all.0, tt))

pub first_ones : {A : Type 0} (P : A → Type 0) (xs : List A) (n : ℕ) → AllByRecursion P xs → AllByRecursion P (take n xs)
first_ones P xs zero all = tt
first_ones P [] (suc n) all = tt
first_ones P (x ∷ xs) (suc n) all = (all.0, first_ones P xs n all.1)

pub two : {A : Type 0} (P Q R : A → Type 0) → ((x : A) → P x → Q x → R x) → (xs : List A) → AllByRecursion P xs → AllByRecursion Q xs → AllByRecursion R xs
two P Q R h [] p q = tt
two P Q R h (x ∷ xs) p q = (h x p.0 q.0, two P Q R h xs p.1 q.1)
