-- How many rows have an oid: where two rows never agree, and where each of some things has one.
use Rattle.std.proofs.Common.{◌≡◌, ℕ, suc, ◌<◌, ◌≤◌, Bool, true, false, true≢false, cond, T, List, [], ◌∷◌, map, length, Some, refl, ap, sym, subst, ◌∙◌, inl, inr, arith}
use Rattle.std.proofs.Math.Facts.{leb_yes, yes_leb, ltb_yes}
use Rattle.std.specs.FinMap.{nat_cmp-IsAntisymmetric}
use Rattle.std.specs.List.{AllByRecursion, slice_get, filter, IsDistinct}
use Rattle.std.specs.Prelude.{nat_le, nat_lt}
use Rattle.cat_names.specs.Lookups.{same_oid, count_of}
use Rattle.cat_sound.proofs.Lists.{IsIn}
use Rattle.named_tables.proofs.Ties.{tie}
use Rattle.named_objects.proofs.Found.{from_filter}

-- ---- what holds of each two rows, an earlier and a later one

abbrev pub Pairs : {R : Type 0} → (R → R → Type 0) → List R → Type 0
Pairs Q [] = Unit {0}
Pairs {R} Q (x ∷ rows) = ((y : R) → IsIn y rows → Q x y) × Pairs Q rows

later_at : {R : Type 0} (rows : List R) (y : R) → IsIn y rows → (j : ℕ) × (slice_get rows j ≡ Some y)
later_at [] y among = elim among [ ]
later_at (x ∷ rows) y (inl e) = (0, ap Some e)
later_at (x ∷ rows) y (inr later) = let at = later_at rows y later in (suc at.0, at.1)

pub pairs_of : {R : Type 0} (Q : R → R → Type 0) (rows : List R) → ((i j : ℕ) (a b : R) → i < j → slice_get rows i ≡ Some a → slice_get rows j ≡ Some b → Q a b) → Pairs Q rows
pairs_of Q [] holds = tt
pairs_of Q (x ∷ rows) holds = (
  λ y among. let at = later_at rows y among in holds 0 (suc at.0) x y (omega arith) refl at.1,
  pairs_of Q rows (λ i j a b below at_a at_b. holds (suc i) (suc j) a b (omega (arith, below)) at_a at_b),
)

-- of rows that pass a test
pub pairs_filter : {R : Type 0} (Q : R → R → Type 0) (test : R → Bool) (rows : List R) → Pairs (λ a b. test a ≡ true → test b ≡ true → Q a b) rows → Pairs Q (filter test rows)
pairs_filter Q test [] all = tt
pairs_filter {R = R} Q test (x ∷ rows) all = by (test x) refl (pairs_filter Q test rows all.1)
  where
    by : (b : Bool) → test x ≡ b → Pairs Q (filter test rows) → Pairs Q (cond b (x ∷ filter test rows) (filter test rows))
    by true e more = (λ y among. let inside = from_filter test rows y among in all.0 y inside.0 e inside.1, more)
    by false e more = more

pub pairs_weaker : {R : Type 0} (P Q : R → R → Type 0) → ((a b : R) → P a b → Q a b) → (rows : List R) → Pairs P rows → Pairs Q rows
pairs_weaker P Q step [] all = tt
pairs_weaker P Q step (x ∷ rows) all = (λ y among. step x y (all.0 y among), pairs_weaker P Q step rows all.1)

-- ---- counts

-- rows of an oid, by their oids or by themselves
pub count_rows : {R : Type 0} (key : R → ℕ) (oid : ℕ) (rows : List R) → count_of (map key rows) oid ≡ length (filter (λ r. same_oid oid (key r)) rows)
count_rows key oid [] = refl
count_rows {R = R} key oid (x ∷ rows) = by (same_oid oid (key x)) (count_rows key oid rows)
  where
    by : (b : Bool) → length (filter (same_oid oid) (map key rows)) ≡ length (filter (λ r. same_oid oid (key r)) rows) → length (cond b (key x ∷ filter (same_oid oid) (map key rows)) (filter (same_oid oid) (map key rows))) ≡ length (cond b (x ∷ filter (λ r. same_oid oid (key r)) rows) (filter (λ r. same_oid oid (key r)) rows))
    by true more = ap suc more
    by false more = more

at_most_one : {R : Type 0} (rows : List R) → Pairs (λ a b. ⊥) rows → length rows ≤ 1
at_most_one [] all = omega arith
at_most_one (x ∷ []) all = omega arith
at_most_one (x ∷ y ∷ rows) all = absurd (all.0 y (inl refl))

-- where no two rows have an oid, at most one does
pub once_counted : {R : Type 0} (key : R → ℕ) (oid : ℕ) (rows : List R) → Pairs (λ a b. oid ≡ key a → oid ≡ key b → ⊥) rows → nat_le (count_of (map key rows) oid) 1 ≡ true
once_counted {R = R} key oid rows all =
    ap (λ (n : ℕ). nat_le n 1) (count_rows key oid rows)
    ∙ truth (nat_le (length (filter (λ r. same_oid oid (key r)) rows)) 1)
    (yes_leb (at_most_one (filter (λ r. same_oid oid (key r)) rows)
    (pairs_filter (λ a b. ⊥) (λ r. same_oid oid (key r)) rows
    (pairs_weaker (λ a b. oid ≡ key a → oid ≡ key b → ⊥) (λ a b. same_oid oid (key a) ≡ true → same_oid oid (key b) ≡ true → ⊥) (λ a b no one two. no (tie nat_cmp-IsAntisymmetric oid (key a) one) (tie nat_cmp-IsAntisymmetric oid (key b) two)) rows all))))
  where
    truth : (b : Bool) → T b → b ≡ true
    truth true t = refl
    truth false t = absurd t

-- a filter behind a weaker one
pub twice_filtered : {R : Type 0} (p q : R → Bool) → ((r : R) → p r ≡ true → q r ≡ true) → (rows : List R) → filter p rows ≡ filter p (filter q rows)
twice_filtered p q step [] = refl
twice_filtered {R = R} p q step (x ∷ rows) = by (p x) refl (q x) refl (twice_filtered p q step rows)
  where
    by : (b : Bool) → p x ≡ b → (c : Bool) → q x ≡ c → filter p rows ≡ filter p (filter q rows) → cond b (x ∷ filter p rows) (filter p rows) ≡ filter p (cond c (x ∷ filter q rows) (filter q rows))
    by true e true f more = ap (λ (ys : List R). x ∷ ys) more ∙ sym (ap (λ (b : Bool). cond b (x ∷ filter p (filter q rows)) (filter p (filter q rows))) e)
    by true e false f more = absurd (true≢false (sym (step x e) ∙ f))
    by false e true f more = more ∙ sym (ap (λ (b : Bool). cond b (x ∷ filter p (filter q rows)) (filter p (filter q rows))) e)
    by false e false f more = more

-- keys of rows no two of which tie are distinct
pub distinct_of : {R K : Type 0} (eq : K → K → Bool) (key : R → K) (rows : List R) → Pairs (λ a b. eq (key a) (key b) ≡ false) rows → IsDistinct eq (map key rows)
unfolding IsDistinct
distinct_of eq key [] all = tt
distinct_of {R = R} {K = K} eq key (x ∷ rows) all = (each rows all.0, distinct_of eq key rows all.1)
  where
    each : (ys : List R) → ((y : R) → IsIn y ys → eq (key x) (key y) ≡ false) → AllByRecursion (λ (k : K). eq (key x) k ≡ false) (map key ys)
    each [] holds = tt
    each (y ∷ ys) holds = (holds y (inl refl), each ys (λ z among. holds z (inr among)))

pub not_over : (n most : ℕ) → n ≤ most → nat_lt most n ≡ false
not_over n most below = by (nat_lt most n) refl
  where
    by : (b : Bool) → nat_lt most n ≡ b → b ≡ false
    by false e = refl
    by true e = let over : most < n = ltb_yes (subst T (sym e) tt) in absurd (omega (arith, over, below))

pub within_most : (n most : ℕ) → nat_le n most ≡ true → n ≤ most
within_most n most e = leb_yes (subst T (sym e) tt)
