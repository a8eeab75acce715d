-- Oids stay apart as some are given and new ones are drawn.
use Rattle.std.proofs.Common.{◌≡◌, ◌==◌, ℕ, ◌≤◌, Bool, true, false, true≢false, cond, ◌&&◌, not, Option, Some, None, is_some, IsSome, refl, sym, ap, subst, ◌∙◌, arith}
use Rattle.std.proofs.lemmas.Option.{none-some}
use Rattle.std.specs.FinMap.{get}
use Rattle.std.specs.FinSet.{contains}
use Rattle.std.specs.Ordering.{eq_by_cmp}
use Rattle.eng_tables.specs.Oids.{IsLeastUnused}
use Rattle.object_ids.specs.Slots.{Slot, slot_cmp, table_of}
use Rattle.object_ids.specs.Ids.{IdsOf, AreApart, fits, added, with_id, IsNumbered, IsNumberedFrom, KeepIds}
use Rattle.object_ids.proofs.Apart.{added_apart, unused_free, at_added, tied_same, tied_self, slot_cmp_total, slot_cmp-IsAntisymmetric}

and_true : (a b : Bool) → a && b ≡ true → (a ≡ true) × (b ≡ true)
and_true true b e = (refl, e)
and_true false b e = absurd (true≢false (sym e))

not_true : (b : Bool) → not b ≡ true → b ≡ false
not_true true e = absurd (true≢false (sym e))
not_true false e = refl

module _ (i : IdsOf) (s : Slot) (oid : ℕ) where
  may_have : fits i s oid ≡ true → (get i.ids s ≡ None) × (contains i.rows (table_of s, oid) ≡ false) × (oid ≡ 0 → ⊥)
  may_have e =
      let two = and_true (not (is_some (get i.ids s)) && not (contains i.rows (table_of s, oid))) (not (oid == 0)) e in
      let one = and_true (not (is_some (get i.ids s))) (not (contains i.rows (table_of s, oid))) two.0 in
      (none_of (get i.ids s) (not_true (is_some (get i.ids s)) one.0), not_true (contains i.rows (table_of s, oid)) one.1, λ zero. true≢false (sym two.1 ∙ ap (λ (n : ℕ). not (n == 0)) zero))
    where
      none_of : (o : Option ℕ) → is_some o ≡ false → o ≡ None
      none_of None e = refl
      none_of (Some n) e = absurd (true≢false e)

  pub given_apart : AreApart i → AreApart (with_id i s oid)
  given_apart apart = by (fits i s oid) refl
    where
      by : (b : Bool) → fits i s oid ≡ b → AreApart (cond b (added i s oid) i)
      by true is = let may = may_have is in added_apart i apart s oid may.1 may.2
      by false is = apart

-- ---- new oids

has_added : (i : IdsOf) (s : Slot) (oid : ℕ) → IsSome (get (added i s oid).ids s)
has_added i s oid = subst IsSome (sym (at_added i s oid s true (tied_self slot_cmp_total s))) refl

added_keeps : (i : IdsOf) (s : Slot) (oid : ℕ) → get i.ids s ≡ None → KeepIds i (added i s oid)
added_keeps i s oid new t had at = by (eq_by_cmp slot_cmp t s) refl
  where
    by : (b : Bool) → eq_by_cmp slot_cmp t s ≡ b → get (added i s oid).ids t ≡ Some had
    by true is = absurd (none-some had (sym new ∙ ap (get i.ids) (sym (tied_same slot_cmp-IsAntisymmetric t s is)) ∙ at))
    by false is = at_added i s oid t false is ∙ at

module _ (old : IdsOf) (s : Slot) (new : IdsOf) where
  drawn_apart : AreApart old → (oid : ℕ) → IsLeastUnused old.used (Some oid) → AreApart (added old s oid)
  drawn_apart apart oid least =
      let first : 16384 ≤ oid = least.0 in
      added_apart old apart s oid (unused_free old apart (table_of s) oid least.1) (λ zero. omega arith)

  apart_by : AreApart old → (o : Option ℕ) (done : Bool) → IsNumberedFrom o old s done new → AreApart new
  apart_by apart (Some had) done how = subst AreApart (sym how.1) apart
  apart_by apart None true how = subst AreApart (sym how.2) (drawn_apart apart how.0 how.1)
  apart_by apart None false how = subst AreApart (sym how.1) apart

  has_by : (o : Option ℕ) (done : Bool) → get old.ids s ≡ o → IsNumberedFrom o old s done new → done ≡ true → IsSome (get new.ids s)
  has_by (Some had) done at how is = subst (λ (i : IdsOf). IsSome (get i.ids s)) (sym how.1) (subst IsSome (sym at) refl)
  has_by None true at how is = subst (λ (i : IdsOf). IsSome (get i.ids s)) (sym how.2) (has_added old s how.0)
  has_by None false at how is = absurd (true≢false (sym is))

  keeps_by : (o : Option ℕ) (done : Bool) → get old.ids s ≡ o → IsNumberedFrom o old s done new → KeepIds old new
  keeps_by (Some had) done at how = subst (KeepIds old) (sym how.1) (λ t oid e. e)
  keeps_by None true at how = subst (KeepIds old) (sym how.2) (added_keeps old s how.0 at)
  keeps_by None false at how = subst (KeepIds old) (sym how.1) (λ t oid e. e)

  pub numbered_apart : (done : Bool) → AreApart old → IsNumbered old s done new → AreApart new
  numbered_apart done apart how = apart_by apart (get old.ids s) done how

  pub numbered_has : (done : Bool) → IsNumbered old s done new → done ≡ true → IsSome (get new.ids s)
  numbered_has done how is = has_by (get old.ids s) done refl how is

  pub numbered_keeps : (done : Bool) → IsNumbered old s done new → KeepIds old new
  numbered_keeps done how = keeps_by (get old.ids s) done refl how
