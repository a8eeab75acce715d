-- Rows that are found: the row of a thing is the one that a test finds which passes on rows of that thing alone.
use Rattle.std.proofs.Common.{◌≡◌, ◌⊎◌, ℕ, zero, suc, ◌<◌, Bool, true, false, true≢false, cond, ◌||◌, List, [], ◌∷◌, map, Option, Some, None, refl, ap, sym, subst, ◌∙◌, inl, inr, arith}
use Rattle.std.specs.declared.cmp.Ordering.{Ordering}
use Rattle.std.specs.Ordering.{eq_by_cmp}
use Rattle.std.specs.Cmp.{first_so, second_so}
use Rattle.std.specs.List.{slice_get, find, filter, filter_map, cons_option, list_any, list_all}
use Rattle.cat_names.specs.Lookups.{has_key}
use Rattle.cat_sound.proofs.Lists.{IsIn}
use Rattle.named_tables.specs.Standing.{IsAmong, AreRowsOf}
use Rattle.named_tables.proofs.Rows.{in_place, among_in}

-- ---- lists

pub found_in : {R : Type 0} (test : R → Bool) (rows : List R) (row : R) → IsIn row rows → test row ≡ true → ((r : R) → IsIn r rows → test r ≡ true → r ≡ row) → find test rows ≡ Some row
found_in test [] row among passes only = elim among [ ]
found_in {R = R} test (x ∷ rows) row among passes only =
    by (λ later. found_in test rows row later passes (λ r within e. only r (inr within) e)) (test x) refl among
  where
    by : (IsIn row rows → find test rows ≡ Some row) → (b : Bool) → test x ≡ b → (x ≡ row) ⊎ IsIn row rows → cond b (Some x) (find test rows) ≡ Some row
    by more true e found = ap Some (only x (inl refl) e)
    by more false e (inr later) = more later
    by more false e (inl same) = absurd (true≢false (sym passes ∙ ap test (sym same) ∙ e))

or_true : (b : Bool) (c : Bool) → c ≡ true → b || c ≡ true
or_true true c e = refl
or_true false c e = e

-- what a row gives is among the keys that rows give
pub has_given : {R K : Type 0} (cmp : K → K → Ordering) (key : R → Option K) (rows : List R) (row : R) (k : K) → eq_by_cmp cmp k k ≡ true → IsIn row rows → key row ≡ Some k → has_key cmp (filter_map key rows) k ≡ true
has_given cmp key [] row k itself among is = elim among [ ]
has_given {R = R} {K = K} cmp key (x ∷ rows) row k itself among is =
    by (λ later. has_given cmp key rows row k itself later is) among (key x) refl
  where
    by : (IsIn row rows → has_key cmp (filter_map key rows) k ≡ true) → (x ≡ row) ⊎ IsIn row rows → (o : Option K) → key x ≡ o → has_key cmp (cons_option o (filter_map key rows)) k ≡ true
    by more (inl same) None e =
        let none : None ≡ Some k = sym e ∙ ap key same ∙ is in
        cc
    by more (inl same) (Some j) e =
        let keys : Some j ≡ Some k = sym e ∙ ap key same ∙ is in
        let one : j ≡ k = cc in
        ap (λ (y : K). eq_by_cmp cmp k y || has_key cmp (filter_map key rows) k) one ∙ ap (λ (b : Bool). b || has_key cmp (filter_map key rows) k) itself
    by more (inr later) None e = more later
    by more (inr later) (Some j) e = or_true (eq_by_cmp cmp k j) (has_key cmp (filter_map key rows) k) (more later)

pub in_filter : {R : Type 0} (test : R → Bool) (rows : List R) (row : R) → IsIn row rows → test row ≡ true → IsIn row (filter test rows)
in_filter test [] row among passes = elim among [ ]
in_filter {R = R} test (x ∷ rows) row among passes =
    by (λ later. in_filter test rows row later passes) (test x) refl among
  where
    by : (IsIn row rows → IsIn row (filter test rows)) → (b : Bool) → test x ≡ b → (x ≡ row) ⊎ IsIn row rows → IsIn row (cond b (x ∷ filter test rows) (filter test rows))
    by more true e (inl same) = inl same
    by more true e (inr later) = inr (more later)
    by more false e (inr later) = more later
    by more false e (inl same) = absurd (true≢false (sym passes ∙ ap test (sym same) ∙ e))

pub from_filter : {R : Type 0} (test : R → Bool) (rows : List R) (row : R) → IsIn row (filter test rows) → IsIn row rows × (test row ≡ true)
from_filter test [] row among = elim among [ ]
from_filter {R = R} test (x ∷ rows) row among = by (from_filter test rows row) (test x) refl among
  where
    by : (IsIn row (filter test rows) → IsIn row rows × (test row ≡ true)) → (b : Bool) → test x ≡ b → IsIn row (cond b (x ∷ filter test rows) (filter test rows)) → IsIn row (x ∷ rows) × (test row ≡ true)
    by more true e (inl same) = (inl same, ap test (sym same) ∙ e)
    by more true e (inr later) = let found = more later in (inr found.0, found.1)
    by more false e later = let found = more later in (inr found.0, found.1)

pub has_mapped : {R K : Type 0} (cmp : K → K → Ordering) (key : R → K) (rows : List R) (row : R) → eq_by_cmp cmp (key row) (key row) ≡ true → IsIn row rows → has_key cmp (map key rows) (key row) ≡ true
has_mapped cmp key [] row itself among = elim among [ ]
has_mapped {R = R} cmp key (x ∷ rows) row itself (inl same) =
    ap (λ (y : R). eq_by_cmp cmp (key row) (key y) || has_key cmp (map key rows) (key row)) same ∙ ap (λ (b : Bool). b || has_key cmp (map key rows) (key row)) itself
has_mapped {R = R} cmp key (x ∷ rows) row itself (inr later) = or_true (eq_by_cmp cmp (key row) (key x)) (has_key cmp (map key rows) (key row)) (has_mapped cmp key rows row itself later)

-- what is made of rows passes where a row's does
pub any_mapped : {R K : Type 0} (test : K → Bool) (key : R → K) (rows : List R) → list_any test (map key rows) ≡ true → (row : R) × IsIn row rows × (test (key row) ≡ true)
any_mapped test key [] e = cc
any_mapped {R = R} test key (x ∷ rows) e = by (any_mapped test key rows) (test (key x)) refl e
  where
    by : (list_any test (map key rows) ≡ true → (row : R) × IsIn row rows × (test (key row) ≡ true)) → (b : Bool) → test (key x) ≡ b → b || list_any test (map key rows) ≡ true → (row : R) × IsIn row (x ∷ rows) × (test (key row) ≡ true)
    by more true passes h = (x, inl refl, passes)
    by more false passes h = let found = more h in (found.0, inr found.1, found.2)

pub mapped_any : {R K : Type 0} (test : K → Bool) (key : R → K) (rows : List R) (row : R) → IsIn row rows → test (key row) ≡ true → list_any test (map key rows) ≡ true
mapped_any test key [] row among passes = elim among [ ]
mapped_any {R = R} test key (x ∷ rows) row (inl same) passes = ap (λ (b : Bool). b || list_any test (map key rows)) (ap (λ (y : R). test (key y)) same ∙ passes)
mapped_any test key (x ∷ rows) row (inr later) passes = or_true (test (key x)) (list_any test (map key rows)) (mapped_any test key rows row later passes)

-- what passes one test passes a weaker one
pub tested_weaker : {A : Type 0} (p q : A → Bool) → ((x : A) → p x ≡ true → q x ≡ true) → (xs : List A) → list_all p xs ≡ true → list_all q xs ≡ true
tested_weaker p q step [] all = refl
tested_weaker p q step (x ∷ xs) all = rw (step x (first_so (p x) (list_all p xs) all), tested_weaker p q step xs (second_so (p x) (list_all p xs) all)) refl

-- one that passes stands somewhere
pub any_place : {A : Type 0} (test : A → Bool) (xs : List A) → list_any test xs ≡ true → (i : ℕ) × (x : A) × (slice_get xs i ≡ Some x) × (test x ≡ true)
any_place test [] e = cc
any_place {A = A} test (y ∷ xs) e = by (any_place test xs) (test y) refl e
  where
    by : (list_any test xs ≡ true → (i : ℕ) × (x : A) × (slice_get xs i ≡ Some x) × (test x ≡ true)) → (b : Bool) → test y ≡ b → b || list_any test xs ≡ true → (i : ℕ) × (x : A) × (slice_get (y ∷ xs) i ≡ Some x) × (test x ≡ true)
    by more true passes h = (0, y, refl, passes)
    by more false passes h = let found = more h in (suc found.0, found.1, found.2, found.3)

-- ---- places

pub three_ways : (i j : ℕ) → (i < j) ⊎ ((j < i) ⊎ (i ≡ j))
three_ways zero zero = inr (inr refl)
three_ways zero (suc j) = inl (omega arith)
three_ways (suc i) zero = inr (inl (omega arith))
three_ways (suc i) (suc j) = by (three_ways i j)
  where
    by : (i < j) ⊎ ((j < i) ⊎ (i ≡ j)) → (suc i < suc j) ⊎ ((suc j < suc i) ⊎ (suc i ≡ suc j))
    by (inl h) = inl (omega (arith, h))
    by (inr (inl h)) = inr (inl (omega (arith, h)))
    by (inr (inr e)) = inr (inr (ap suc e))

module _ {T R : Type 0} (There : T → Type 0) (Says : T → R → Type 0) (rows : List R) (are : AreRowsOf There Says rows) where
  -- two rows of a thing are one
  pub one_row : (t : T) (a b : R) → IsAmong rows a → IsAmong rows b → Says t a → Says t b → a ≡ b
  one_row t a b at_a at_b says_a says_b = by (three_ways at_a.0 at_b.0)
    where
      by : (at_a.0 < at_b.0) ⊎ ((at_b.0 < at_a.0) ⊎ (at_a.0 ≡ at_b.0)) → a ≡ b
      by (inl below) = absurd (are.once at_a.0 at_b.0 a b t below at_a.1 at_b.1 says_a says_b)
      by (inr (inl below)) = absurd (are.once at_b.0 at_a.0 b a t below at_b.1 at_a.1 says_b says_a)
      by (inr (inr e)) =
          let both : Some a ≡ Some b = sym at_a.1 ∙ ap (slice_get rows) e ∙ at_b.1 in
          cc

  -- the row of a thing is found by a test that rows of other things don't pass
  pub find_row : (test : R → Bool) (t : T) (row : R) → IsAmong rows row → Says t row → test row ≡ true → ((s : T) (r : R) → There s → Says s r → test r ≡ true → s ≡ t) → find test rows ≡ Some row
  find_row test t row at says passes only = found_in test rows row (among_in rows row at) passes (λ r among e. by r among e)
    where
      by : (r : R) → IsIn r rows → test r ≡ true → r ≡ row
      by r among e =
          let one = are.only r (in_place rows r among) in
          let same = only one.0 r one.1 one.2 e in
          one_row t r row (in_place rows r among) at (subst (λ (s : T). Says s r) same one.2) says
