-- Lists of rows whose names are apart: what is left of them, sorted and mapped, has names that are apart too.
use Rattle.std.proofs.Common.{◌≡◌, ◌≤◌, ℕ, pos, suc, Bool, true, false, cond, not, ◌||◌, List, [], ◌∷◌, map, length, Option, Some, None, refl, sym, ap, subst, ◌∙◌, arith, inl, inr}
use Rattle.std.proofs.lemmas.Bool.{and_from}
use Rattle.std.specs.List.{AllByRecursion, filter, filter_map, list_any, cons_option}
use Rattle.std.specs.Ordering.{int_cmp, is_le}
use Rattle.std.specs.Prelude.{ℤ}
use Rattle.cat_model.specs.Lexemes.{same_text}
use Rattle.cat_model.specs.Tables.{distinct}
use Rattle.cat_model.specs.Values.{Bytes}
use Rattle.cat_model.proofs.MarkLaws.{same_text-equal}
use Rattle.cat_names.specs.Lookups.{same_oid}
use Rattle.cat_book.specs.Meets.{AreDistinct}
use Rattle.cat_book.specs.Rules.{RowName, name_cmp}
use Rattle.oid_groups.specs.Orders.{placed, by_number}
use Rattle.cat_sound.proofs.Lists.{IsIn}
use Rattle.sound_rows.proofs.Among.{of_filter, place_in}
use Rattle.sound_rows.proofs.Paths.{name_tied}
use Rattle.sound_rows.proofs.Roles.{same_oid-equal}

-- ---- members

pub in_filter : {A : Type 0} (p : A → Bool) (xs : List A) (x : A) → IsIn x xs → p x ≡ true → IsIn x (filter p xs)
in_filter p [] x among e = elim among [ ]
in_filter {A} p (y ∷ ys) x among e = by (λ later. in_filter p ys x later e) (p y) refl among
  where
    by : (IsIn x ys → IsIn x (filter p ys)) → (b : Bool) → p y ≡ b → IsIn x (y ∷ ys) → IsIn x (cond {A = List A} b (y ∷ filter p ys) (filter p ys))
    by later true is (inl same) = inl same
    by later true is (inr among) = inr (later among)
    by later false is (inl same) = absurd (let no : p x ≡ false = subst (λ z. p z ≡ false) same is in cc)
    by later false is (inr among) = later among

in_front : {B : Type 0} (o : Option B) (y : B) (ys : List B) → IsIn y ys → IsIn y (cons_option o ys)
in_front None y ys among = among
in_front (Some z) y ys among = inr among

pub in_mapped : {A B : Type 0} (f : A → Option B) (xs : List A) (x : A) (y : B) → IsIn x xs → f x ≡ Some y → IsIn y (filter_map f xs)
in_mapped f [] x y among e = elim among [ ]
in_mapped {A} {B} f (z ∷ zs) x y (inl same) e = subst (λ (o : Option B). IsIn y (cons_option o (filter_map f zs))) (sym (ap f same ∙ e)) (inl refl)
in_mapped f (z ∷ zs) x y (inr later) e = in_front (f z) y (filter_map f zs) (in_mapped f zs x y later e)

-- what holds of each that is mapped
pub each_mapped : {A B : Type 0} (P : B → Type 0) (f : A → Option B) (xs : List A) → ((x : A) → IsIn x xs → (y : B) → f x ≡ Some y → P y) → AllByRecursion P (filter_map f xs)
each_mapped P f [] each = tt
each_mapped {A} {B} P f (x ∷ xs) each = by (each_mapped P f xs (λ z among. each z (inr among))) (f x) refl
  where
    by : AllByRecursion P (filter_map f xs) → (o : Option B) → f x ≡ o → AllByRecursion P (cons_option o (filter_map f xs))
    by later None is = later
    by later (Some y) is = (each x (inl refl) y is, later)

or_true : (a b : Bool) → b ≡ true → (a || b) ≡ true
or_true true b e = refl
or_true false b e = e

pub any_in : {A : Type 0} (p : A → Bool) (xs : List A) (x : A) → IsIn x xs → p x ≡ true → list_any p xs ≡ true
any_in p [] x among e = elim among [ ]
any_in p (y ∷ ys) x (inl same) e = rw (ap p same ∙ e) refl
any_in p (y ∷ ys) x (inr later) e = or_true (p y) (list_any p ys) (any_in p ys x later e)

-- ---- sorted rows are the same rows

module _ {R : Type 0} (number : R → ℤ) where
  placed_in : (r : R) (rs : List R) (x : R) → IsIn x (placed number r rs) → IsIn x (r ∷ rs)
  unfolding placed
  placed_in r [] x among = among
  placed_in r (y ∷ ys) x among = by (placed_in r ys x) (is_le (int_cmp (number r) (number y))) among
    where
      by : (IsIn x (placed number r ys) → IsIn x (r ∷ ys)) → (b : Bool) → IsIn x (cond {A = List R} b (r ∷ y ∷ ys) (y ∷ placed number r ys)) → IsIn x (r ∷ y ∷ ys)
      by later true here = here
      by later false (inl same) = inr (inl same)
      by later false (inr here) = turn (later here)
        where
          turn : IsIn x (r ∷ ys) → IsIn x (r ∷ y ∷ ys)
          turn (inl same) = inl same
          turn (inr behind) = inr (inr behind)

  in_placed : (r : R) (rs : List R) (x : R) → IsIn x (r ∷ rs) → IsIn x (placed number r rs)
  unfolding placed
  in_placed r [] x among = among
  in_placed r (y ∷ ys) x among = by (in_placed r ys x) (is_le (int_cmp (number r) (number y))) among
    where
      by : (IsIn x (r ∷ ys) → IsIn x (placed number r ys)) → (b : Bool) → IsIn x (r ∷ y ∷ ys) → IsIn x (cond {A = List R} b (r ∷ y ∷ ys) (y ∷ placed number r ys))
      by later true here = here
      by later false (inl same) = inr (later (inl same))
      by later false (inr (inl same)) = inl same
      by later false (inr (inr behind)) = inr (later (inr behind))

  pub sorted_in : (rs : List R) (x : R) → IsIn x (by_number number rs) → IsIn x rs
  unfolding by_number
  sorted_in [] x among = among
  sorted_in (r ∷ rs) x among = by (sorted_in rs x) (placed_in r (by_number number rs) x among)
    where
      by : (IsIn x (by_number number rs) → IsIn x rs) → IsIn x (r ∷ by_number number rs) → IsIn x (r ∷ rs)
      by later (inl same) = inl same
      by later (inr behind) = inr (later behind)

  pub in_sorted : (rs : List R) (x : R) → IsIn x rs → IsIn x (by_number number rs)
  unfolding by_number
  in_sorted [] x among = among
  in_sorted (r ∷ rs) x (inl same) = in_placed r (by_number number rs) x (inl same)
  in_sorted (r ∷ rs) x (inr behind) = in_placed r (by_number number rs) x (inr (in_sorted rs x behind))

  length_placed : (r : R) (rs : List R) → length (placed number r rs) ≡ suc (length rs)
  unfolding placed
  length_placed r [] = refl
  length_placed r (y ∷ ys) = by (length_placed r ys) (is_le (int_cmp (number r) (number y)))
    where
      by : length (placed number r ys) ≡ suc (length ys) → (b : Bool) → length (cond {A = List R} b (r ∷ y ∷ ys) (y ∷ placed number r ys)) ≡ suc (suc (length ys))
      by later true = refl
      by later false = ap suc later

  pub length_sorted : (rs : List R) → length (by_number number rs) ≡ length rs
  unfolding by_number
  length_sorted [] = refl
  length_sorted (r ∷ rs) = length_placed r (by_number number rs) ∙ ap suc (length_sorted rs)

cons_more : {B : Type 0} (o : Option B) (ys : List B) (n : ℕ) → length ys ≤ n → length (cons_option o ys) ≤ suc n
cons_more None ys n le = omega arith
cons_more (Some y) ys n le = omega arith

pub length_mapped : {A B : Type 0} (f : A → Option B) (xs : List A) → length (filter_map f xs) ≤ length xs
length_mapped f [] = omega arith
length_mapped f (x ∷ xs) = cons_more (f x) (filter_map f xs) (length xs) (length_mapped f xs)

-- ---- names that are apart

abbrev pub Apart : {A : Type 0} → (A → Bytes) → List A → Type 0
Apart f [] = Unit {0}
Apart {A} f (x ∷ xs) = ((y : A) → IsIn y xs → f x ≡ f y → ⊥) × Apart f xs

-- rows of a table whose names within what they belong to are distinct
module _ {R : Type 0} (oid_of : R → ℕ) (name_of : R → Bytes) (oid : ℕ) where
  of_one : R → Bool
  of_one r = same_oid oid (oid_of r)

  apart_from : (rows : List R) (x : R) → AreDistinct name_cmp (λ r. Some (oid_of r, 0, pos 0, name_of r)) (x ∷ rows) → same_oid oid (oid_of x) ≡ true → (y : R) → IsIn y (filter (λ r. same_oid oid (oid_of r)) rows) → name_of x ≡ name_of y → ⊥
  apart_from rows x distinct here y among same =
      let kept = of_filter (λ r. same_oid oid (oid_of r)) rows y among in
      let place = place_in rows y kept.0 in
      let oids : oid_of x ≡ oid_of y = sym (same_oid-equal oid (oid_of x) here) ∙ same_oid-equal oid (oid_of y) kept.1 in
      let key : ◌≡◌ {A = Option RowName} (Some (oid_of x, 0, pos 0, name_of x)) (Some (oid_of y, 0, pos 0, name_of y)) = ap {B = Option RowName} (λ (n : ℕ). Some (n, 0, pos 0, name_of x)) oids ∙ ap {B = Option RowName} (λ (n : Bytes). Some (oid_of y, 0, pos 0, n)) same in
      let no = distinct 0 (suc place.0) x y (oid_of y, 0, pos 0, name_of y) (oid_of y, 0, pos 0, name_of y) (omega arith) refl place.1 key refl in
      let tied = name_tied (oid_of y, 0, pos 0, name_of y) in
      absurd cc

  behind_first : (rows : List R) (x : R) → AreDistinct name_cmp (λ r. Some (oid_of r, 0, pos 0, name_of r)) (x ∷ rows) → AreDistinct name_cmp (λ r. Some (oid_of r, 0, pos 0, name_of r)) rows
  behind_first rows x distinct i j earlier later k l below at bt ka kb = distinct (suc i) (suc j) earlier later k l (omega arith) at bt ka kb

  pub apart_filtered : (rows : List R) → AreDistinct name_cmp (λ r. Some (oid_of r, 0, pos 0, name_of r)) rows → Apart name_of (filter (λ r. same_oid oid (oid_of r)) rows)
  apart_filtered [] distinct = tt
  apart_filtered (x ∷ xs) distinct = by (apart_filtered xs (behind_first xs x distinct)) (same_oid oid (oid_of x)) refl
    where
      by : Apart name_of (filter (λ r. same_oid oid (oid_of r)) xs) → (b : Bool) → same_oid oid (oid_of x) ≡ b → Apart name_of (cond {A = List R} b (x ∷ filter (λ r. same_oid oid (oid_of r)) xs) (filter (λ r. same_oid oid (oid_of r)) xs))
      by later true is = (apart_from xs x distinct is, later)
      by later false is = later

module _ {R : Type 0} (name_of : R → Bytes) (number : R → ℤ) where
  apart_placed : (r : R) (rs : List R) → Apart name_of (r ∷ rs) → Apart name_of (placed number r rs)
  unfolding placed
  apart_placed r [] apart = apart
  apart_placed r (y ∷ ys) apart = by (apart_placed r ys ((λ z among. apart.0 z (inr among)), apart.1.1)) (is_le (int_cmp (number r) (number y)))
    where
      other : (z : R) → IsIn z (r ∷ ys) → name_of y ≡ name_of z → ⊥
      other z (inl same) e = apart.0 y (inl refl) (ap name_of same ∙ sym e)
      other z (inr among) e = apart.1.0 z among e

      by : Apart name_of (placed number r ys) → (b : Bool) → Apart name_of (cond {A = List R} b (r ∷ y ∷ ys) (y ∷ placed number r ys))
      by later true = apart
      by later false = ((λ z among e. other z (placed_in number r ys z among) e), later)

  pub apart_sorted : (rs : List R) → Apart name_of rs → Apart name_of (by_number number rs)
  unfolding by_number
  apart_sorted [] apart = tt
  apart_sorted (r ∷ rs) apart = apart_placed r (by_number number rs) ((λ z among e. apart.0 z (sorted_in number rs z among) e), apart_sorted rs apart.1)

-- what is mapped keeps its names
pub mapped_in : {A B : Type 0} (g : A → Option B) (xs : List A) (y : B) → IsIn y (filter_map g xs) → (x : A) × IsIn x xs × (g x ≡ Some y)
mapped_in g [] y among = elim among [ ]
mapped_in {A} {B} g (x ∷ xs) y among = by (λ later. mapped_in g xs y later) (g x) refl among
  where
    by : (IsIn y (filter_map g xs) → (z : A) × IsIn z xs × (g z ≡ Some y)) → (o : Option B) → g x ≡ o → IsIn y (cons_option o (filter_map g xs)) → (z : A) × IsIn z (x ∷ xs) × (g z ≡ Some y)
    by later None is here = let h = later here in (h.0, inr h.1, h.2)
    by later (Some w) is (inl same) = (x, inl refl, is ∙ ap (λ (v : B). Some v) same)
    by later (Some w) is (inr here) = let h = later here in (h.0, inr h.1, h.2)

pub apart_mapped : {A B : Type 0} (g : A → Option B) (f : A → Bytes) (h : B → Bytes) → ((x : A) (y : B) → g x ≡ Some y → h y ≡ f x) → (xs : List A) → Apart f xs → Apart h (filter_map g xs)
apart_mapped g f h keeps [] apart = tt
apart_mapped {A} {B} g f h keeps (x ∷ xs) apart = by (apart_mapped g f h keeps xs apart.1) (g x) refl
  where
    by : Apart h (filter_map g xs) → (o : Option B) → g x ≡ o → Apart h (cons_option o (filter_map g xs))
    by later None is = later
    by later (Some w) is = (
      (λ y among e. let from = mapped_in g xs y among in apart.0 from.0 from.1 (sym (keeps x w is) ∙ e ∙ keeps from.0 y from.2)),
      later,
    )

none_any : {A : Type 0} (f : A → Bytes) (n : Bytes) (xs : List A) → ((y : A) → IsIn y xs → n ≡ f y → ⊥) → list_any (same_text n) (map f xs) ≡ false
none_any f n [] other = refl
none_any f n (x ∷ xs) other = by (none_any f n xs (λ y among. other y (inr among))) (same_text n (f x)) refl
  where
    by : list_any (same_text n) (map f xs) ≡ false → (b : Bool) → same_text n (f x) ≡ b → (b || list_any (same_text n) (map f xs)) ≡ false
    by later true is = absurd (other x (inl refl) (same_text-equal n (f x) is))
    by later false is = later

pub distinct_apart : {A : Type 0} (f : A → Bytes) (xs : List A) → Apart f xs → distinct (map f xs) ≡ true
distinct_apart f [] apart = refl
distinct_apart f (x ∷ xs) apart = and_from (not (list_any (same_text (f x)) (map f xs))) (distinct (map f xs)) (ap not (none_any f (f x) xs apart.0)) (distinct_apart f xs apart.1)

-- ---- how many

kept_mapped : {A B : Type 0} (p : B → Bool) (f : A → B) (xs : List A) → length (filter p (map f xs)) ≡ length (filter (λ x. p (f x)) xs)
kept_mapped p f [] = refl
kept_mapped {A} {B} p f (x ∷ xs) = by (kept_mapped p f xs) (p (f x))
  where
    by : length (filter p (map f xs)) ≡ length (filter (λ x. p (f x)) xs) → (b : Bool) → length (cond {A = List B} b (f x ∷ filter p (map f xs)) (filter p (map f xs))) ≡ length (cond {A = List A} b (x ∷ filter (λ x. p (f x)) xs) (filter (λ x. p (f x)) xs))
    by later true = ap suc later
    by later false = later

pub counted : {A : Type 0} (f : A → ℕ) (xs : List A) (oid : ℕ) → length (filter (same_oid oid) (map f xs)) ≡ length (filter (λ x. same_oid oid (f x)) xs)
counted f xs oid = kept_mapped (same_oid oid) f xs
