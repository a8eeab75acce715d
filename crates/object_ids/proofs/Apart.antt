-- Oids that are apart stay apart as one more is given.
use Rattle.std.proofs.Common.{◌≡◌, ◌⊎◌, inl, inr, ℕ, Bool, true, false, true≢false, cond, ◌||◌, Some, refl, sym, ap, ◌∙◌}
use Rattle.std.proofs.lemmas.Cmp.{then_total, on_total}
use Rattle.std.proofs.lemmas.Map.Lookups.{exact_pairs}
use Rattle.std.proofs.lemmas.Option.{none-some}
use Rattle.std.specs.Cmp.{IsTotalOrder, nat_cmp_total, tied_itself, Equal-is}
use Rattle.std.specs.FinMap.{IsAntisymmetric, get, insert, get-empty, get-insert, nat_cmp-IsAntisymmetric}
use Rattle.std.specs.FinSet as set
use Rattle.std.specs.FinSet.{contains, contains-empty, contains-insert}
use Rattle.std.specs.declared.cmp.Ordering.{Ordering}
use Rattle.std.specs.Ordering.{nat_cmp, is_eq, eq_by_cmp}
use Rattle.cat_model.specs.KeyLaws.{key_cmp-IsAntisymmetric, key_cmp_total}
use Rattle.cat_model.specs.Keys.{key_cmp}
use Rattle.object_ids.specs.Slots.{Slot, slot_cmp, table_of}
use Rattle.object_ids.specs.Ids.{IdsOf, Row, row_cmp, AreApart, none, added, avoiding}

pub slot_cmp_total : IsTotalOrder slot_cmp
slot_cmp_total = then_total (on_total (λ (s : Slot). s.0) nat_cmp_total) (on_total (λ (s : Slot). s.1) key_cmp_total)

pub slot_cmp-IsAntisymmetric : IsAntisymmetric slot_cmp
slot_cmp-IsAntisymmetric = exact_pairs nat_cmp key_cmp nat_cmp-IsAntisymmetric key_cmp-IsAntisymmetric

pub row_cmp_total : IsTotalOrder row_cmp
row_cmp_total = then_total (on_total (λ (r : Row). r.0) nat_cmp_total) (on_total (λ (r : Row). r.1) nat_cmp_total)

pub row_cmp-IsAntisymmetric : IsAntisymmetric row_cmp
row_cmp-IsAntisymmetric = exact_pairs nat_cmp nat_cmp nat_cmp-IsAntisymmetric nat_cmp-IsAntisymmetric

module _ {K : Type 0} {R : K → K → Ordering} where
  pub tied_same : IsAntisymmetric R → (a b : K) → eq_by_cmp R a b ≡ true → a ≡ b
  tied_same same a b h = same a b ((Equal-is (R a b)).0 h)

  pub tied_self : IsTotalOrder R → (a : K) → eq_by_cmp R a a ≡ true
  tied_self total a = ap is_eq (tied_itself total a)

some_is : (a b : ℕ) → Some a ≡ Some b → a ≡ b
some_is a b e = cc

or_left : (b c : Bool) → b ≡ true → b || c ≡ true
or_left b c e = ap (λ (b : Bool). b || c) e

or_right : (b c : Bool) → c ≡ true → b || c ≡ true
or_right true c e = refl
or_right false c e = e

or_cases : (a b : Bool) → a || b ≡ true → (a ≡ true) ⊎ (b ≡ true)
or_cases true b h = inl refl
or_cases false b h = inr h

-- ---- what stands after one more

pub at_added : (i : IdsOf) (s : Slot) (oid : ℕ) (t : Slot) (b : Bool) → eq_by_cmp slot_cmp t s ≡ b → get (added i s oid).ids t ≡ cond b (Some oid) (get i.ids t)
at_added i s oid t b is = get-insert slot_cmp_total i.ids s oid t ∙ ap (λ (b : Bool). cond b (Some oid) (get i.ids t)) is

row_stays : (i : IdsOf) (s : Slot) (oid : ℕ) (r : Row) → contains i.rows r ≡ true → contains (added i s oid).rows r ≡ true
row_stays i s oid r h = contains-insert row_cmp_total i.rows (table_of s, oid) r ∙ or_right _ _ h

row_new : (i : IdsOf) (s : Slot) (oid : ℕ) → contains (added i s oid).rows (table_of s, oid) ≡ true
row_new i s oid = contains-insert row_cmp_total i.rows (table_of s, oid) (table_of s, oid) ∙ or_left _ _ (tied_self row_cmp_total (table_of s, oid))

pub used_stays : (used : set.FinSet nat_cmp) (oid n : ℕ) → contains used n ≡ true → contains (set.insert used oid) n ≡ true
used_stays used oid n h = contains-insert nat_cmp_total used oid n ∙ or_right _ _ h

pub used_new : (used : set.FinSet nat_cmp) (oid : ℕ) → contains (set.insert used oid) oid ≡ true
used_new used oid = contains-insert nat_cmp_total used oid oid ∙ or_left _ _ (tied_self nat_cmp_total oid)

-- ---- none, and one more

pub none_apart : AreApart none
none_apart = record {
  apart = λ s t oid e f tables. absurd (none-some oid (sym (get-empty slot_cmp s) ∙ e));
  some = λ s oid e zero. none-some oid (sym (get-empty slot_cmp s) ∙ e);
  rows = λ s oid e. absurd (none-some oid (sym (get-empty slot_cmp s) ∙ e));
  used = λ r h. absurd (true≢false (sym h ∙ contains-empty row_cmp r));
}

module _ (i : IdsOf) (a : AreApart i) where
  pub avoiding_apart : (oid : ℕ) → AreApart (avoiding i oid)
  avoiding_apart oid = record {
    apart = a.apart;
    some = a.some;
    rows = a.rows;
    used = λ r h. used_stays i.used oid r.1 (a.used r h);
  }

  -- a row that has an oid, and nothing that has it yet
  pub row_apart : (table oid : ℕ) → AreApart (record { ids = i.ids; rows = set.insert i.rows (table, oid); used = set.insert i.used oid })
  row_apart table oid = record {
    apart = a.apart;
    some = a.some;
    rows = λ s o e. contains-insert row_cmp_total i.rows (table, oid) (table_of s, o) ∙ or_right _ _ (a.rows s o e);
    used = λ r h. of_row r (or_cases (eq_by_cmp row_cmp r (table, oid)) (contains i.rows r) (sym (contains-insert row_cmp_total i.rows (table, oid) r) ∙ h));
  }
    where
      of_row : (r : Row) → (eq_by_cmp row_cmp r (table, oid) ≡ true) ⊎ (contains i.rows r ≡ true) → contains (set.insert i.used oid) r.1 ≡ true
      of_row r (inl is) = ap (λ (q : Row). contains (set.insert i.used oid) q.1) (tied_same row_cmp-IsAntisymmetric r (table, oid) is) ∙ used_new i.used oid
      of_row r (inr h) = used_stays i.used oid r.1 (a.used r h)

  module _ (s : Slot) (oid : ℕ) (free : contains i.rows (table_of s, oid) ≡ false) (nonzero : oid ≡ 0 → ⊥) where
    -- an older one of the same table has another oid
    older : {A : Type 0} (t : Slot) (o : ℕ) → get i.ids t ≡ Some o → table_of t ≡ table_of s → oid ≡ o → A
    older t o e tables is =
        let there : contains i.rows (table_of t, o) ≡ true = a.rows t o e in
        absurd (true≢false (sym there ∙ ap (λ (n : ℕ). contains i.rows (n, o)) tables ∙ ap (λ (n : ℕ). contains i.rows (table_of s, n)) (sym is) ∙ free))

    pub added_apart : AreApart (added i s oid)
    added_apart = record {
      apart = λ t u o e f tables. by t u o e f tables (eq_by_cmp slot_cmp t s) (eq_by_cmp slot_cmp u s) refl refl;
      some = λ t o e zero. some_by t o e zero (eq_by_cmp slot_cmp t s) refl;
      rows = λ t o e. rows_by t o e (eq_by_cmp slot_cmp t s) refl;
      used = λ r h. used_by r (or_cases (eq_by_cmp row_cmp r (table_of s, oid)) (contains i.rows r) (sym (contains-insert row_cmp_total i.rows (table_of s, oid) r) ∙ h));
    }
      where
        is_s : (t : Slot) → eq_by_cmp slot_cmp t s ≡ true → t ≡ s
        is_s t e = tied_same slot_cmp-IsAntisymmetric t s e

        given : (t : Slot) (o : ℕ) → eq_by_cmp slot_cmp t s ≡ true → get (added i s oid).ids t ≡ Some o → oid ≡ o
        given t o is e = some_is oid o (sym (at_added i s oid t true is) ∙ e)

        had : (t : Slot) (o : ℕ) → eq_by_cmp slot_cmp t s ≡ false → get (added i s oid).ids t ≡ Some o → get i.ids t ≡ Some o
        had t o is e = sym (at_added i s oid t false is) ∙ e

        by : (t u : Slot) (o : ℕ) → get (added i s oid).ids t ≡ Some o → get (added i s oid).ids u ≡ Some o → table_of t ≡ table_of u → (b c : Bool) → eq_by_cmp slot_cmp t s ≡ b → eq_by_cmp slot_cmp u s ≡ c → t ≡ u
        by t u o e f tables true true p q = is_s t p ∙ sym (is_s u q)
        by t u o e f tables true false p q = older u o (had u o q f) (sym tables ∙ ap table_of (is_s t p)) (given t o p e)
        by t u o e f tables false true p q = older t o (had t o p e) (tables ∙ ap table_of (is_s u q)) (given u o q f)
        by t u o e f tables false false p q = a.apart t u o (had t o p e) (had u o q f) tables

        some_by : (t : Slot) (o : ℕ) → get (added i s oid).ids t ≡ Some o → o ≡ 0 → (b : Bool) → eq_by_cmp slot_cmp t s ≡ b → ⊥
        some_by t o e zero true p = nonzero (given t o p e ∙ zero)
        some_by t o e zero false p = a.some t o (had t o p e) zero

        rows_by : (t : Slot) (o : ℕ) → get (added i s oid).ids t ≡ Some o → (b : Bool) → eq_by_cmp slot_cmp t s ≡ b → contains (added i s oid).rows (table_of t, o) ≡ true
        rows_by t o e true p = ap (λ (u : Slot). contains (added i s oid).rows (table_of u, o)) (is_s t p) ∙ ap (λ (n : ℕ). contains (added i s oid).rows (table_of s, n)) (sym (given t o p e)) ∙ row_new i s oid
        rows_by t o e false p = row_stays i s oid (table_of t, o) (a.rows t o (had t o p e))

        used_by : (r : Row) → (eq_by_cmp row_cmp r (table_of s, oid) ≡ true) ⊎ (contains i.rows r ≡ true) → contains (set.insert i.used oid) r.1 ≡ true
        used_by r (inl is) = ap (λ (q : Row). contains (set.insert i.used oid) q.1) (tied_same row_cmp-IsAntisymmetric r (table_of s, oid) is) ∙ used_new i.used oid
        used_by r (inr h) = used_stays i.used oid r.1 (a.used r h)

-- an oid that isn't used is of no row
pub unused_free : (i : IdsOf) → AreApart i → (table oid : ℕ) → contains i.used oid ≡ false → contains i.rows (table, oid) ≡ false
unused_free i a table oid free = by (contains i.rows (table, oid)) refl
  where
    by : (b : Bool) → contains i.rows (table, oid) ≡ b → contains i.rows (table, oid) ≡ false
    by true is = absurd (true≢false (sym (a.used (table, oid) is) ∙ free))
    by false is = is
