-- Rows whose keys are distinct among those that pass a test, and among those that don't.
use Rattle.std.proofs.Common.{◌≡◌, ℕ, zero, suc, ◌<◌, Bool, true, false, true≢false, cond, not, List, [], ◌∷◌, Option, Some, unwrap_or, refl, ap, sym, ◌∙◌, arith}
use Rattle.std.proofs.lemmas.Option.{none-some}
use Rattle.std.specs.declared.cmp.Ordering.{Ordering}
use Rattle.std.specs.Ordering.{eq_by_cmp}
use Rattle.std.specs.List.{slice_get, filter}
use Rattle.cat_book.specs.Meets.{AreDistinct, EachRow}

-- a row that passes stands among those that pass
pub place_filter : {R : Type 0} (test : R → Bool) (rows : List R) (i : ℕ) (a : R) → slice_get rows i ≡ Some a → test a ≡ true → (j : ℕ) × (slice_get (filter test rows) j ≡ Some a)
place_filter test [] i a at passes = absurd (none-some a at)
place_filter {R = R} test (x ∷ rows) zero a at passes =
    let same : x ≡ a = ap (λ (o : Option R). unwrap_or o x) at in
    by (test x) (ap test same ∙ passes) same
  where
    by : (b : Bool) → b ≡ true → x ≡ a → (j : ℕ) × (slice_get (cond b (x ∷ filter test rows) (filter test rows)) j ≡ Some a)
    by true e same = (0, ap Some same)
    by false e same = absurd (true≢false (sym e))
place_filter {R = R} test (x ∷ rows) (suc i) a at passes = by (test x) (place_filter test rows i a at passes)
  where
    by : (b : Bool) → (j : ℕ) × (slice_get (filter test rows) j ≡ Some a) → (j : ℕ) × (slice_get (cond b (x ∷ filter test rows) (filter test rows)) j ≡ Some a)
    by true found = (suc found.0, found.1)
    by false found = found

-- and two in their order
places_filter : {R : Type 0} (test : R → Bool) (rows : List R) (i j : ℕ) (a b : R) → i < j → slice_get rows i ≡ Some a → slice_get rows j ≡ Some b → test a ≡ true → test b ≡ true → (m : ℕ) × (n : ℕ) × (m < n) × (slice_get (filter test rows) m ≡ Some a) × (slice_get (filter test rows) n ≡ Some b)
places_filter test [] i j a b below at_a at_b of_a of_b = absurd (none-some a at_a)
places_filter test (x ∷ rows) i zero a b below at_a at_b of_a of_b = absurd (omega (arith, below))
places_filter {R = R} test (x ∷ rows) zero (suc j) a b below at_a at_b of_a of_b =
    let same : x ≡ a = ap (λ (o : Option R). unwrap_or o x) at_a in
    by (test x) (ap test same ∙ of_a) same (place_filter test rows j b at_b of_b)
  where
    by : (c : Bool) → c ≡ true → x ≡ a → (n : ℕ) × (slice_get (filter test rows) n ≡ Some b) → (m : ℕ) × (n : ℕ) × (m < n) × (slice_get (cond c (x ∷ filter test rows) (filter test rows)) m ≡ Some a) × (slice_get (cond c (x ∷ filter test rows) (filter test rows)) n ≡ Some b)
    by true e same found = (0, suc found.0, omega arith, ap Some same, found.1)
    by false e same found = absurd (true≢false (sym e))
places_filter {R = R} test (x ∷ rows) (suc i) (suc j) a b below at_a at_b of_a of_b = by (test x) (places_filter test rows i j a b (omega (arith, below)) at_a at_b of_a of_b)
  where
    by : (c : Bool) → (m : ℕ) × (n : ℕ) × (m < n) × (slice_get (filter test rows) m ≡ Some a) × (slice_get (filter test rows) n ≡ Some b) → (m : ℕ) × (n : ℕ) × (m < n) × (slice_get (cond c (x ∷ filter test rows) (filter test rows)) m ≡ Some a) × (slice_get (cond c (x ∷ filter test rows) (filter test rows)) n ≡ Some b)
    by true found = (suc found.0, suc found.1, omega (arith, found.2), found.3, found.4)
    by false found = found

not_of : (b : Bool) → b ≡ false → not b ≡ true
not_of true e = cc
not_of false e = refl

-- keys are distinct where those of each part are and no two of different parts tie
pub distinct_parts : {R K : Type 0} (cmp : K → K → Ordering) (key : R → Option K) (test : R → Bool) (rows : List R) → AreDistinct cmp key (filter test rows) → AreDistinct cmp key (filter (λ r. not (test r)) rows) → ((a b : R) (k l : K) → key a ≡ Some k → key b ≡ Some l → eq_by_cmp cmp l k ≡ true → test a ≡ test b) → AreDistinct cmp key rows
distinct_parts cmp key test rows one other apart i j a b k l below at_a at_b is_k is_l = by (test a) (test b) refl refl
  where
    differ : test a ≡ true → test b ≡ false → eq_by_cmp cmp l k ≡ false
    differ of_a of_b = at (eq_by_cmp cmp l k) refl
      where
        at : (c : Bool) → eq_by_cmp cmp l k ≡ c → c ≡ false
        at false e = refl
        at true e = absurd (true≢false (sym of_a ∙ apart a b k l is_k is_l e ∙ of_b))

    differ_too : test a ≡ false → test b ≡ true → eq_by_cmp cmp l k ≡ false
    differ_too of_a of_b = at (eq_by_cmp cmp l k) refl
      where
        at : (c : Bool) → eq_by_cmp cmp l k ≡ c → c ≡ false
        at false e = refl
        at true e = absurd (true≢false (sym of_b ∙ sym (apart a b k l is_k is_l e) ∙ of_a))

    by : (c d : Bool) → test a ≡ c → test b ≡ d → eq_by_cmp cmp l k ≡ false
    by true true of_a of_b =
        let at = places_filter test rows i j a b below at_a at_b of_a of_b in
        one at.0 at.1 a b k l at.2 at.3 at.4 is_k is_l
    by false false of_a of_b =
        let at = places_filter (λ r. not (test r)) rows i j a b below at_a at_b (not_of (test a) of_a) (not_of (test b) of_b) in
        other at.0 at.1 a b k l at.2 at.3 at.4 is_k is_l
    by true false of_a of_b = differ of_a of_b
    by false true of_a of_b = differ_too of_a of_b

pub each_part : {R : Type 0} (P : R → Type 0) (test : R → Bool) (rows : List R) → EachRow P (filter test rows) → EachRow P (filter (λ r. not (test r)) rows) → EachRow P rows
each_part P test rows one other i a at = by (test a) refl
  where
    by : (c : Bool) → test a ≡ c → P a
    by true of = let found = place_filter test rows i a at of in one found.0 a found.1
    by false of = let found = place_filter (λ r. not (test r)) rows i a at (not_of (test a) of) in other found.0 a found.1
