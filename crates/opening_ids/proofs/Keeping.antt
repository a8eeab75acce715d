-- What a row of an opening gives an oid keeps it, and rows of a table that are apart all give theirs.
use Rattle.std.proofs.Common.{◌≡◌, inl, inr, ℕ, zero, suc, ◌<◌, ◌==◌, Bool, true, false, true≢false, cond, ◌&&◌, ◌||◌, not, List, [], ◌∷◌, Option, Some, None, is_some, refl, sym, ap, subst, ◌∙◌, arith}
use Rattle.std.proofs.lemmas.Bool.Decides.{nat_tests}
use Rattle.std.specs.Cmp.{first_so, second_so}
use Rattle.std.specs.FinMap.{get}
use Rattle.std.specs.FinSet.{contains, contains-insert}
use Rattle.std.specs.List.{slice_get}
use Rattle.std.specs.Ordering.{eq_by_cmp}
use Rattle.cat_sound.proofs.Lists.{IsIn}
use Rattle.object_ids.specs.Slots.{Slot, slot_cmp, table_of}
use Rattle.object_ids.specs.Ids.{IdsOf, Row, row_cmp, fits, added, avoiding, KeepIds}
use Rattle.object_ids.proofs.Apart.{row_cmp_total, row_cmp-IsAntisymmetric, slot_cmp_total, slot_cmp-IsAntisymmetric, at_added, tied_same, tied_self}
use Rattle.opening_ids.specs.Opening.{given, all_given, depends_avoided}

-- ---- one row

abbrev pub IsFree : IdsOf → Slot → ℕ → Type 0
IsFree ids s oid = (get ids.ids s ≡ None) × (contains ids.rows (table_of s, oid) ≡ false)

apart_slots : (s t : Slot) → (s ≡ t → ⊥) → eq_by_cmp slot_cmp s t ≡ false
apart_slots s t apart = by (eq_by_cmp slot_cmp s t) refl
  where
    by : (b : Bool) → eq_by_cmp slot_cmp s t ≡ b → eq_by_cmp slot_cmp s t ≡ false
    by true is = absurd (apart (tied_same slot_cmp-IsAntisymmetric s t is))
    by false is = is

apart_rows : (p q : Row) → (p ≡ q → ⊥) → eq_by_cmp row_cmp p q ≡ false
apart_rows p q apart = by (eq_by_cmp row_cmp p q) refl
  where
    by : (b : Bool) → eq_by_cmp row_cmp p q ≡ b → eq_by_cmp row_cmp p q ≡ false
    by true is = absurd (apart (tied_same row_cmp-IsAntisymmetric p q is))
    by false is = is

zero_of : (n : ℕ) → n == 0 ≡ true → n ≡ 0
zero_of n is = grind (arith, nat_tests)

not_zero : (n : ℕ) → (n ≡ 0 → ⊥) → n == 0 ≡ false
not_zero n some = by (n == 0) refl
  where
    by : (b : Bool) → n == 0 ≡ b → n == 0 ≡ false
    by true is = absurd (some (zero_of n is))
    by false is = is

pub given_keeps : (ids : IdsOf) (oid : ℕ) (o : Option Slot) → KeepIds ids (given ids oid o)
given_keeps ids oid None t had at = at
given_keeps ids oid (Some s) t had at = by (fits (avoiding ids oid) s oid) refl
  where
    other : (b : Bool) → eq_by_cmp slot_cmp t s ≡ b → not (is_some (get ids.ids s)) ≡ true → get (added (avoiding ids oid) s oid).ids t ≡ Some had
    other true same none =
        let there : get ids.ids s ≡ Some had = ap (get ids.ids) (sym (tied_same slot_cmp-IsAntisymmetric t s same)) ∙ at in
        absurd (true≢false (sym none ∙ ap (λ (o : Option ℕ). not (is_some o)) there))
    other false same none = at_added (avoiding ids oid) s oid t false same ∙ at

    by : (b : Bool) → fits (avoiding ids oid) s oid ≡ b → get (cond b (added (avoiding ids oid) s oid) (avoiding ids oid)).ids t ≡ Some had
    by false is = at
    by true is =
        other (eq_by_cmp slot_cmp t s) refl
        (first_so (not (is_some (get ids.ids s))) (not (contains ids.rows (table_of s, oid)))
        (first_so (not (is_some (get ids.ids s)) && not (contains ids.rows (table_of s, oid))) (not (oid == 0)) is))

pub gives : (ids : IdsOf) (s : Slot) (oid : ℕ) → IsFree ids s oid → (oid ≡ 0 → ⊥) → get (given ids oid (Some s)).ids s ≡ Some oid
gives ids s oid free some =
    let may : fits (avoiding ids oid) s oid ≡ true = rw (free.0, free.1, not_zero oid some) refl in
    ap (λ (b : Bool). get (cond b (added (avoiding ids oid) s oid) (avoiding ids oid)).ids s) may
    ∙ at_added (avoiding ids oid) s oid s true (tied_self slot_cmp_total s)

pub stays_free : (ids : IdsOf) (oid : ℕ) (o : Option Slot) (s : Slot) (n : ℕ) → IsFree ids s n → ((t : Slot) → o ≡ Some t → (s ≡ t → ⊥) × (◌≡◌ {A = Row} (table_of s, n) (table_of t, oid) → ⊥)) → IsFree (given ids oid o) s n
stays_free ids oid None s n free apart = free
stays_free ids oid (Some t) s n free apart = by (fits (avoiding ids oid) t oid)
  where
    by : (b : Bool) → IsFree (cond b (added (avoiding ids oid) t oid) (avoiding ids oid)) s n
    by false = free
    by true = (
      at_added (avoiding ids oid) t oid s false (apart_slots s t (apart t refl).0) ∙ free.0,
      contains-insert row_cmp_total ids.rows (table_of t, oid) (table_of s, n)
          ∙ ap (λ (b : Bool). b || contains ids.rows (table_of s, n)) (apart_rows (table_of s, n) (table_of t, oid) (apart t refl).1)
          ∙ free.1,
    )

-- ---- the rows of a table

module _ {R : Type 0} (oid : R → ℕ) (of : R → Option Slot) where
  pub all_keep : (rows : List R) (ids : IdsOf) → KeepIds ids (all_given oid of ids rows)
  all_keep [] ids t had at = at
  all_keep (r ∷ rows) ids t had at = all_keep rows (given ids (oid r) (of r)) t had (given_keeps ids (oid r) (of r) t had at)

  -- rows of one table leave what is of another as free as it was
  pub others_free : (rows : List R) (ids : IdsOf) (s : Slot) (n : ℕ) → ((r : R) (t : Slot) → of r ≡ Some t → table_of s ≡ table_of t → ⊥) → IsFree ids s n → IsFree (all_given oid of ids rows) s n
  others_free [] ids s n other free = free
  others_free (r ∷ rows) ids s n other free =
      others_free rows (given ids (oid r) (of r)) s n other
      (stays_free ids (oid r) (of r) s n free (λ t is. (λ same. other r t is (ap table_of same), λ same. other r t is (ap (λ (p : Row). p.0) same))))

  abbrev pub IsApart : R → R → Type 0
  IsApart r q = (s t : Slot) → of r ≡ Some s → of q ≡ Some t → (t ≡ s → ⊥) × (◌≡◌ {A = Row} (table_of t, oid q) (table_of s, oid r) → ⊥)

  abbrev pub AreApartRows : List R → Type 0
  AreApartRows [] = Unit {0}
  AreApartRows (r ∷ rows) = ((q : R) → IsIn q rows → IsApart r q) × AreApartRows rows

  pub all_give : (rows : List R) (ids : IdsOf) → AreApartRows rows → ((r : R) → IsIn r rows → oid r ≡ 0 → ⊥) → ((r : R) → IsIn r rows → (s : Slot) → of r ≡ Some s → IsFree ids s (oid r)) → (r : R) → IsIn r rows → (s : Slot) → of r ≡ Some s → get (all_given oid of ids rows).ids s ≡ Some (oid r)
  all_give [] ids apart some free r among s is = absurd among
  all_give (x ∷ rows) ids apart some free r (inl same) s is =
      let of_x : of x ≡ Some s = ap of same ∙ is in
      all_keep rows (given ids (oid x) (of x)) s (oid r)
      (ap (λ (o : Option Slot). get (given ids (oid x) o).ids s) of_x ∙ gives ids s (oid x) (free x (inl refl) s of_x) (some x (inl refl)) ∙ ap (λ (y : R). Some (oid y)) same)
  all_give (x ∷ rows) ids apart some free r (inr later) s is =
      all_give rows (given ids (oid x) (of x)) apart.1 (λ q among. some q (inr among))
      (λ q among t at. stays_free ids (oid x) (of x) t (oid q) (free q (inr among) t at) (λ u of_x. apart.0 q among u t of_x at))
      r later s is

pub place_of : {R : Type 0} (rows : List R) (r : R) → IsIn r rows → (i : ℕ) × (slice_get rows i ≡ Some r)
place_of [] r among = absurd among
place_of (q ∷ rows) r (inl is) = (0, ap Some is)
place_of (q ∷ rows) r (inr later) = let it = place_of rows r later in (suc it.0, it.1)

-- rows of which each two by their places are apart
pub apart_pairs : {R : Type 0} (oid : R → ℕ) (of : R → Option Slot) (rows : List R) → ((i j : ℕ) (r q : R) → i < j → slice_get rows i ≡ Some r → slice_get rows j ≡ Some q → IsApart oid of r q) → AreApartRows oid of rows
apart_pairs oid of [] each = tt
apart_pairs oid of (r ∷ rows) each = (
  λ q among. let it = place_of rows q among in each 0 (suc it.0) r q (omega arith) refl it.1,
  apart_pairs oid of rows (λ i j x y less at_i at_j. each (suc i) (suc j) x y (omega arith) at_i at_j),
)
