-- Rows of a table by their places: what each row is, rows that have one key, and keys that are there.
use Rattle.std.proofs.Common.{◌≡◌, ◌⊎◌, ℕ, zero, suc, ◌<◌, ◌≤◌, Bool, true, false, cond, ◌||◌, List, [], ◌∷◌, ◌++◌, map, Option, Some, None, refl, sym, ap, subst, ◌∙◌, arith, inl, inr}
use Rattle.std.specs.declared.cmp.Ordering.{Ordering}
use Rattle.std.specs.Ordering.{eq_by_cmp}
use Rattle.std.specs.FinMap.{IsAntisymmetric}
use Rattle.std.specs.List.{slice_get, flat_map, filter, find}
use Rattle.std.proofs.lemmas.Bool.{cases_lt}
use Rattle.cat_names.specs.Lookups.{has_key}
use Rattle.cat_book.specs.Meets.{AreDistinct, EachRow}
use Rattle.cat_sound.proofs.Lists.{IsIn}
use Rattle.sound_rows.specs.Rows.{IsAmong}
use Rattle.cat_sound.proofs.Maps.{equal_of}

-- ---- places

pub place_in : {A : Type 0} (xs : List A) (x : A) → IsIn x xs → IsAmong x xs
place_in [] x among = elim among [ ]
place_in {A} (y ∷ ys) x (inl e) = (0, ap (λ (z : A). Some z) e)
place_in (y ∷ ys) x (inr later) = let p = place_in ys x later in (suc p.0, p.1)

at_place : {A : Type 0} (xs : List A) (x : A) (i : ℕ) → slice_get xs i ≡ Some x → IsIn x xs
at_place [] x i e = absurd cc
at_place (y ∷ ys) x zero e = inl (let same : y ≡ x = cc in same)
at_place (y ∷ ys) x (suc i) e = inr (at_place ys x i e)

pub in_place : {A : Type 0} (xs : List A) (x : A) → IsAmong x xs → IsIn x xs
in_place xs x among = at_place xs x among.0 among.1

pub each_in : {R : Type 0} (P : R → Type 0) (rows : List R) → EachRow P rows → (r : R) → IsAmong r rows → P r
each_in P rows each r among = each among.0 r among.1

inside : {A : Type 0} (x y : A) (o : Option A) → o ≡ Some x → o ≡ Some y → x ≡ y
inside x y o e f = cc

-- rows with keys that tie are one row
pub one_row : {R K : Type 0} (cmp : K → K → Ordering) (key : R → Option K) (rows : List R) → AreDistinct cmp key rows
    → (a b : R) (k l : K) → IsAmong a rows → IsAmong b rows → key a ≡ Some k → key b ≡ Some l → eq_by_cmp cmp k l ≡ true → eq_by_cmp cmp l k ≡ true → a ≡ b
one_row {R} {K} cmp key rows apart a b k l among other ka kb e f =
    by among.0 other.0 among.1 other.1 (cases_lt among.0 other.0) (cases_lt other.0 among.0)
  where
    by : (i j : ℕ) → slice_get rows i ≡ Some a → slice_get rows j ≡ Some b → (i < j) ⊎ (j ≤ i) → (j < i) ⊎ (i ≤ j) → a ≡ b
    by i j at bt (inl below) later = absurd (let no = apart i j a b k l below at bt ka kb in cc)
    by i j at bt (inr up) (inl above) = absurd (let no = apart j i b a l k above bt at kb ka in cc)
    by i j at bt (inr up) (inr down) = let same : i ≡ j = omega arith in inside a b (slice_get rows i) at (ap (slice_get rows) same ∙ bt)

-- the same of one key, where keys tie with themselves
pub one_of_key : {R K : Type 0} (cmp : K → K → Ordering) → ((k : K) → eq_by_cmp cmp k k ≡ true) → (key : R → Option K) (rows : List R) → AreDistinct cmp key rows
    → (a b : R) (k : K) → IsAmong a rows → IsAmong b rows → key a ≡ Some k → key b ≡ Some k → a ≡ b
one_of_key cmp tied key rows apart a b k among other ka kb = one_row cmp key rows apart a b k k among other ka kb (tied k) (tied k)

-- ---- members of lists that were put together

pub in_front : {A : Type 0} (x : A) (xs ys : List A) → IsIn x xs → IsIn x (xs ++ ys)
in_front x [] ys among = elim among [ ]
in_front x (y ∷ xs) ys (inl e) = inl e
in_front x (y ∷ xs) ys (inr later) = inr (in_front x xs ys later)

pub in_back : {A : Type 0} (x : A) (xs ys : List A) → IsIn x ys → IsIn x (xs ++ ys)
in_back x [] ys among = among
in_back x (y ∷ xs) ys among = inr (in_back x xs ys among)

in_each : {A B : Type 0} (f : B → List A) (bs : List B) (b : B) (x : A) → IsIn b bs → IsIn x (f b) → IsIn x (flat_map f bs)
in_each f [] b x among here = elim among [ ]
in_each f (c ∷ bs) b x (inl e) here = in_front x (f c) (flat_map f bs) (subst (λ d. IsIn x (f d)) (sym e) here)
in_each f (c ∷ bs) b x (inr later) here = in_back x (f c) (flat_map f bs) (in_each f bs b x later here)

pub in_flat : {A B : Type 0} (f : B → List A) (bs : List B) (b : B) (x : A) → IsAmong b bs → IsIn x (f b) → IsIn x (flat_map f bs)
in_flat f bs b x among here = in_each f bs b x (in_place bs b among) here

pub of_filter : {A : Type 0} (p : A → Bool) (xs : List A) (x : A) → IsIn x (filter p xs) → IsIn x xs × (p x ≡ true)
of_filter p [] x among = elim among [ ]
of_filter {A} p (y ∷ ys) x among = by (of_filter p ys x) (p y) refl among
  where
    by : (IsIn x (filter p ys) → IsIn x ys × (p x ≡ true)) → (b : Bool) → p y ≡ b → IsIn x (cond {A = List A} b (y ∷ filter p ys) (filter p ys)) → IsIn x (y ∷ ys) × (p x ≡ true)
    by later true is (inl e) = (inl e, subst (λ z. p z ≡ true) e is)
    by later true is (inr among) = let h = later among in (inr h.0, h.1)
    by later false is among = let h = later among in (inr h.0, h.1)

-- ---- keys that are there

-- a key that one of the rows has is that of a row
has_in : {A K : Type 0} (cmp : K → K → Ordering) → IsAntisymmetric cmp → (f : A → K) (xs : List A) (k : K) → has_key cmp (map f xs) k ≡ true → (x : A) × IsIn x xs × (f x ≡ k)
has_in cmp exact f [] k e = absurd cc
has_in {A} cmp exact f (x ∷ xs) k e = by (has_in cmp exact f xs k) (eq_by_cmp cmp k (f x)) refl e
  where
    by : (has_key cmp (map f xs) k ≡ true → (y : A) × IsIn y xs × (f y ≡ k)) → (b : Bool) → eq_by_cmp cmp k (f x) ≡ b → (b || has_key cmp (map f xs) k) ≡ true → (y : A) × IsIn y (x ∷ xs) × (f y ≡ k)
    by later true is h = (x, inl refl, sym (equal_of exact k (f x) (cmp k (f x)) refl is))
    by later false is h = let found = later h in (found.0, inr found.1, found.2)

pub has_found : {A K : Type 0} (cmp : K → K → Ordering) → IsAntisymmetric cmp → (f : A → K) (xs : List A) (k : K) → has_key cmp (map f xs) k ≡ true → (x : A) × IsAmong x xs × (f x ≡ k)
has_found cmp exact f xs k e = let has = has_in cmp exact f xs k e in (has.0, place_in xs has.0 has.1, has.2)

-- what is found is one of the rows, and passes
find_in : {A : Type 0} (p : A → Bool) (xs : List A) (x : A) → find p xs ≡ Some x → IsIn x xs × (p x ≡ true)
find_in p [] x e = absurd cc
find_in {A} p (y ∷ ys) x e = by (find_in p ys x) (p y) refl e
  where
    by : (find p ys ≡ Some x → IsIn x ys × (p x ≡ true)) → (b : Bool) → p y ≡ b → cond {A = Option A} b (Some y) (find p ys) ≡ Some x → IsIn x (y ∷ ys) × (p x ≡ true)
    by later true is h = let same : y ≡ x = cc in (inl same, subst (λ z. p z ≡ true) same is)
    by later false is h = let found = later h in (inr found.0, found.1)

pub find_found : {A : Type 0} (p : A → Bool) (xs : List A) (x : A) → find p xs ≡ Some x → IsAmong x xs × (p x ≡ true)
find_found p xs x e = let found = find_in p xs x e in (place_in xs x found.0, found.1)

-- a row that passes lets something be found
in_find : {A : Type 0} (p : A → Bool) (xs : List A) (x : A) → IsIn x xs → p x ≡ true → (y : A) × (find p xs ≡ Some y)
in_find p [] x among e = elim among [ ]
in_find {A} p (y ∷ ys) x among e = by (λ later. in_find p ys x later e) (p y) refl among
  where
    by : (IsIn x ys → (z : A) × (find p ys ≡ Some z)) → (b : Bool) → p y ≡ b → IsIn x (y ∷ ys) → (z : A) × (cond {A = Option A} b (Some y) (find p ys) ≡ Some z)
    by later true is here = (y, refl)
    by later false is (inl same) = absurd (let no : p x ≡ false = subst (λ z. p z ≡ false) same is in cc)
    by later false is (inr among) = later among

pub found_find : {A : Type 0} (p : A → Bool) (xs : List A) (x : A) → IsAmong x xs → p x ≡ true → (y : A) × (find p xs ≡ Some y)
found_find p xs x among e = in_find p xs x (in_place xs x among) e
