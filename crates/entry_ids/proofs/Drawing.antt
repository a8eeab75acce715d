-- Oids that are drawn one after another weren't in use before the first.
use Rattle.std.proofs.Common.{◌≡◌, ℕ, Bool, true, false, true≢false, Option, Some, None, refl, sym, ap, subst, ◌∙◌}
use Rattle.std.proofs.lemmas.Option.{none-some}
use Rattle.std.specs.FinMap.{get}
use Rattle.std.specs.FinSet.{contains}
use Rattle.std.specs.Ordering.{eq_by_cmp}
use Rattle.eng_tables.specs.Oids.{IsLeastUnused}
use Rattle.object_ids.specs.Slots.{Slot, slot_cmp}
use Rattle.object_ids.specs.Ids.{IdsOf, added, IsNumbered, IsNumberedFrom}
use Rattle.object_ids.proofs.Apart.{at_added, used_stays}
use Rattle.object_ids.proofs.Given.{numbered_keeps}
use Rattle.entry_ids.specs.Entries.{AreUnused}

-- an oid that was in use is
abbrev pub KeepUsed : IdsOf → IdsOf → Type 0
KeepUsed before after = (oid : ℕ) → contains before.used oid ≡ true → contains after.used oid ≡ true

one_oid : (a b : ℕ) → Some a ≡ Some b → a ≡ b
one_oid a b e = cc

pub same_unused : (ids : IdsOf) → AreUnused ids ids
same_unused ids t oid none some = absurd (none-some oid (sym none ∙ some))

module _ (old : IdsOf) (s : Slot) (new : IdsOf) where
  added_unused : (drawn : ℕ) → contains old.used drawn ≡ false → AreUnused old (added old s drawn)
  added_unused drawn unused t oid none some = by (eq_by_cmp slot_cmp t s) refl
    where
      by : (b : Bool) → eq_by_cmp slot_cmp t s ≡ b → contains old.used oid ≡ false
      by true is = ap (contains old.used) (sym (one_oid drawn oid (sym (at_added old s drawn t true is) ∙ some))) ∙ unused
      by false is = absurd (none-some oid (sym none ∙ sym (at_added old s drawn t false is) ∙ some))

  unused_by : (o : Option ℕ) (done : Bool) → IsNumberedFrom o old s done new → AreUnused old new
  unused_by (Some had) done how = subst (AreUnused old) (sym how.1) (same_unused old)
  unused_by None true how = subst (AreUnused old) (sym how.2) (added_unused how.0 how.1.1)
  unused_by None false how = subst (AreUnused old) (sym how.1) (same_unused old)

  used_by : (o : Option ℕ) (done : Bool) → IsNumberedFrom o old s done new → KeepUsed old new
  used_by (Some had) done how = subst (KeepUsed old) (sym how.1) (λ oid h. h)
  used_by None true how = subst (KeepUsed old) (sym how.2) (λ oid h. used_stays old.used how.0 oid h)
  used_by None false how = subst (KeepUsed old) (sym how.1) (λ oid h. h)

  left_by : (o : Option ℕ) (done : Bool) → IsNumberedFrom o old s done new → done ≡ false → IsLeastUnused new.used None
  left_by (Some had) done how is = absurd (true≢false (sym how.0 ∙ is))
  left_by None true how is = absurd (true≢false is)
  left_by None false how is = subst (λ (i : IdsOf). IsLeastUnused i.used None) (sym how.1) how.0

  -- none is left where it got none
  pub none_left : (done : Bool) → IsNumbered old s done new → done ≡ false → IsLeastUnused new.used None
  none_left done how = left_by (get old.ids s) done how

  module _ (first : IdsOf) (done : Bool) (how : IsNumbered old s done new) (used : KeepUsed first old) where
    pub used_more : KeepUsed first new
    used_more oid h = used_by (get old.ids s) done how oid (used oid h)

    -- one more
    pub unused_more : AreUnused first old → AreUnused first new
    unused_more unused t oid none some = by (get old.ids t) refl
      where
        free : (b : Bool) → contains first.used oid ≡ b → contains old.used oid ≡ false → contains first.used oid ≡ false
        free true is without = absurd (true≢false (sym (used oid is) ∙ without))
        free false is without = is

        by : (o : Option ℕ) → get old.ids t ≡ o → contains first.used oid ≡ false
        by (Some had) at = unused t oid none (at ∙ sym (numbered_keeps old s new done how t had at) ∙ some)
        by None at = free (contains first.used oid) refl (unused_by (get old.ids s) done how t oid at some)
