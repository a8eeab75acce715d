-- One more that has an oid.
use Rattle.std.proofs.Common.{◌≡◌, ◌⊎◌, inl, inr, ℕ, ◌+◌, ◌<◌, ◌≤◌, List, length, Option, Some, None, IsSome, refl, sym, ap, subst, ◌∙◌, arith}
use Rattle.std.proofs.Math.ListN.{get_or}
use Rattle.std.proofs.lemmas.Bool.{cases_lt}
use Rattle.std.proofs.lemmas.Option.{slice_get-get_or}
use Rattle.std.specs.FinMap.{get}
use Rattle.std.specs.List.{slice_get}
use Rattle.object_ids.specs.Slots.{Slot}
use Rattle.object_ids.specs.Ids.{IdsOf, KeepIds}

kept_some : (old new : IdsOf) (t : Slot) → KeepIds old new → (o : Option ℕ) → get old.ids t ≡ o → IsSome o → IsSome (get new.ids t)
kept_some old new t keeps (Some oid) at is = subst IsSome (sym (keeps t oid at)) refl
kept_some old new t keeps None at is = absurd cc

same_slot : (s t : Slot) → Some s ≡ Some t → s ≡ t
same_slot s t e = cc

pub had_more : (old new : IdsOf) (slots : List Slot) (i : ℕ) (s : Slot) → KeepIds old new → i < length slots → s ≡ get_or slots i s → IsSome (get new.ids s) → ((k : ℕ) (t : Slot) → k < i → slice_get slots k ≡ Some t → IsSome (get old.ids t)) → (k : ℕ) (t : Slot) → k < i + 1 → slice_get slots k ≡ Some t → IsSome (get new.ids t)
had_more old new slots i s keeps within is has had k t below at = by (cases_lt k i)
  where
    by : (k < i) ⊎ (i ≤ k) → IsSome (get new.ids t)
    by (inl less) = kept_some old new t keeps (get old.ids t) refl (had k t less at)
    by (inr from) =
        let here : i ≡ k = omega arith in
        let there : Some (get_or slots i s) ≡ Some t = sym (slice_get-get_or slots i s within) ∙ ap (slice_get slots) here ∙ at in
        subst (λ (u : Slot). IsSome (get new.ids u)) (is ∙ same_slot (get_or slots i s) t there) has
