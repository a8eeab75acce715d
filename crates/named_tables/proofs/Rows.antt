-- Rows that stand for things: what holds of each row, which keys are distinct, and what the rows give by names.
use Rattle.std.proofs.Common.{◌≡◌, ℕ, zero, suc, pos, Bool, true, false, ◌||◌, List, [], ◌∷◌, map, Option, Some, None, unwrap_or, refl, ap, sym, subst, ◌∙◌, inl, inr}
use Rattle.std.specs.declared.cmp.Ordering.{Ordering}
use Rattle.std.specs.declared.cmp.Ordering.TheVariants.{Less, Equal, Greater}
use Rattle.std.specs.Ordering.{nat_cmp, int_cmp, is_eq, eq_by_cmp, ordering_then}
use Rattle.std.specs.Cmp.{IsTotalOrder, tied_itself}
use Rattle.std.specs.FinMap.{IsAntisymmetric, nat_cmp-IsAntisymmetric, int_cmp-IsAntisymmetric}
use Rattle.std.specs.List.{slice_get, list_any}
use Rattle.cat_model.specs.Values.{Bytes, bytes_cmp}
use Rattle.cat_model.specs.HolderLaws.{bytes_cmp-IsAntisymmetric}
use Rattle.cat_names.specs.Lookups.{has_key}
use Rattle.plain_tables.specs.Meets.{AreDistinct, AtMostOne, EachRow}
use Rattle.plain_tables.specs.Rules.{RowName, name_cmp}
use Rattle.cat_sound.proofs.Lists.{IsIn}
use Rattle.named_tables.proofs.Ties.{tie}
use Rattle.named_tables.specs.Standing.{IsAmong, AreRowsOf}

-- ---- names that tie

-- two orders of which the second counts where the first ties
both_tie : (o p : Ordering) → ordering_then o p ≡ Equal → (o ≡ Equal) × (p ≡ Equal)
both_tie Less p e = cc
both_tie Equal p e = (refl, e)
both_tie Greater p e = cc

pub name_cmp-IsAntisymmetric : IsAntisymmetric name_cmp
name_cmp-IsAntisymmetric a b e =
    let one = both_tie (ordering_then (ordering_then (nat_cmp a.0 b.0) (nat_cmp a.1 b.1)) (int_cmp a.2 b.2)) (bytes_cmp a.3 b.3) e in
    let two = both_tie (ordering_then (nat_cmp a.0 b.0) (nat_cmp a.1 b.1)) (int_cmp a.2 b.2) one.0 in
    let three = both_tie (nat_cmp a.0 b.0) (nat_cmp a.1 b.1) two.0 in
    let spaces = nat_cmp-IsAntisymmetric a.0 b.0 three.0 in
    let seconds = nat_cmp-IsAntisymmetric a.1 b.1 three.1 in
    let numbers = int_cmp-IsAntisymmetric a.2 b.2 two.1 in
    let names = bytes_cmp-IsAntisymmetric a.3 b.3 one.1 in
    λ i. (spaces i, seconds i, numbers i, names i)

-- names and oids of rows that tie are the same
pub one_name : (a b : Bytes) (k l : RowName) → Some (0, 0, pos 0, a) ≡ Some k → Some (0, 0, pos 0, b) ≡ Some l → eq_by_cmp name_cmp l k ≡ true → a ≡ b
one_name a b k l is_k is_l ties =
    let names : l ≡ k = tie name_cmp-IsAntisymmetric l k ties in
    let first : (0, 0, pos 0, a) ≡ k = ap (λ (o : Option RowName). unwrap_or o k) is_k in
    let second : (0, 0, pos 0, b) ≡ l = ap (λ (o : Option RowName). unwrap_or o l) is_l in
    ap (λ (n : RowName). n.3) (first ∙ sym names ∙ sym second)

pub one_oid : (a b k l : ℕ) → Some a ≡ Some k → Some b ≡ Some l → eq_by_cmp nat_cmp l k ≡ true → a ≡ b
one_oid a b k l is_k is_l ties =
    let numbers : l ≡ k = tie nat_cmp-IsAntisymmetric l k ties in
    let first : a ≡ k = ap (λ (o : Option ℕ). unwrap_or o k) is_k in
    let second : b ≡ l = ap (λ (o : Option ℕ). unwrap_or o l) is_l in
    first ∙ sym numbers ∙ sym second

-- ---- places

pub in_place : {R : Type 0} (rows : List R) (row : R) → IsIn row rows → IsAmong rows row
in_place [] row among = elim among [ ]
in_place (r ∷ rows) row (inl e) = (0, ap Some e)
in_place (r ∷ rows) row (inr later) = let at = in_place rows row later in (suc at.0, at.1)

pub place_in : {R : Type 0} (rows : List R) (i : ℕ) (row : R) → slice_get rows i ≡ Some row → IsIn row rows
place_in [] i row at = cc
place_in (r ∷ rows) zero row at = inl cc
place_in (r ∷ rows) (suc i) row at = inr (place_in rows i row at)

pub among_in : {R : Type 0} (rows : List R) (row : R) → IsAmong rows row → IsIn row rows
among_in rows row at = place_in rows at.0 row at.1

-- ---- keys of rows

pub has_its : {R K : Type 0} (cmp : K → K → Ordering) → IsTotalOrder cmp → (key : R → K) (rows : List R) (row : R) → IsIn row rows → has_key cmp (map key rows) (key row) ≡ true
has_its cmp total key [] row among = elim among [ ]
has_its {R = R} cmp total key (r ∷ rows) row (inl e) =
    ap (λ (k : R). eq_by_cmp cmp (key row) (key k) || has_key cmp (map key rows) (key row)) e
    ∙ ap (λ (b : Bool). b || has_key cmp (map key rows) (key row)) (ap is_eq (tied_itself total (key row)))
has_its cmp total key (r ∷ rows) row (inr later) =
    by (eq_by_cmp cmp (key row) (key r)) (has_its cmp total key rows row later)
  where
    by : (b : Bool) → has_key cmp (map key rows) (key row) ≡ true → (b || has_key cmp (map key rows) (key row)) ≡ true
    by true e = refl
    by false e = e

pub any_its : {R : Type 0} (test : R → Bool) (rows : List R) (row : R) → IsIn row rows → test row ≡ true → list_any test rows ≡ true
any_its test [] row among passes = elim among [ ]
any_its test (r ∷ rows) row (inl e) passes = ap (λ (b : Bool). b || list_any test rows) (ap test e ∙ passes)
any_its test (r ∷ rows) row (inr later) passes = by (test r) (any_its test rows row later passes)
  where
    by : (b : Bool) → list_any test rows ≡ true → (b || list_any test rows) ≡ true
    by true e = refl
    by false e = e

-- ---- rows that stand for things

module _ {T R : Type 0} (There : T → Type 0) (Says : T → R → Type 0) (rows : List R) (are : AreRowsOf There Says rows) where
  pub each_row : (P : R → Type 0) → ((t : T) (row : R) → There t → Says t row → P row) → EachRow P rows
  each_row P holds i row at = let one = are.only row (i, at) in holds one.0 row one.1 one.2

  -- keys are distinct of which a tie says that the things are the same
  pub distinct_keys : {K : Type 0} (cmp : K → K → Ordering) (key : R → Option K) → ((t s : T) (a b : R) (k l : K) → There t → There s → Says t a → Says s b → key a ≡ Some k → key b ≡ Some l → eq_by_cmp cmp l k ≡ true → t ≡ s) → AreDistinct cmp key rows
  distinct_keys {K} cmp key same i j earlier later k l below at_i at_j is_k is_l = by (eq_by_cmp cmp l k) refl
    where
      by : (b : Bool) → eq_by_cmp cmp l k ≡ b → b ≡ false
      by false e = refl
      by true e =
          let one = are.only earlier (i, at_i) in
          let two = are.only later (j, at_j) in
          let as_one = same one.0 two.0 earlier later k l one.1 two.1 one.2 two.2 is_k is_l e in
          absurd (are.once i j earlier later one.0 below at_i at_j one.2 (subst (λ (t : T). Says t later) (sym as_one) two.2))

  pub at_most_one : (mark : R → Bool) → ((t s : T) (a b : R) → There t → There s → Says t a → Says s b → mark a ≡ true → mark b ≡ true → t ≡ s) → AtMostOne mark rows
  at_most_one mark same i j earlier later below at_i at_j marked = by (mark later) refl
    where
      by : (b : Bool) → mark later ≡ b → b ≡ false
      by false e = refl
      by true e =
          let one = are.only earlier (i, at_i) in
          let two = are.only later (j, at_j) in
          let as_one = same one.0 two.0 earlier later one.1 two.1 one.2 two.2 marked e in
          absurd (are.once i j earlier later one.0 below at_i at_j one.2 (subst (λ (t : T). Says t later) (sym as_one) two.2))

pub no_keys : {R K : Type 0} (cmp : K → K → Ordering) (rows : List R) → AreDistinct cmp (λ r. None) rows
no_keys cmp rows i j earlier later k l below at_i at_j is_k is_l = cc

pub no_marks : {R : Type 0} (rows : List R) → AtMostOne (λ r. false) rows
no_marks rows i j earlier later below at_i at_j marked = refl
