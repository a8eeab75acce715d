-- What texts refer to is there after a statement where it was there before, or where it is what the statement makes.
use Rattle.std.proofs.Common.{◌≡◌, Bool, true, false, not, List, [], ◌∷◌, None, refl, ap, subst, if◌then◌else◌}
use Rattle.std.specs.FinMap.{get}
use Rattle.std.specs.List.{AllByRecursion, list_any}
use Rattle.std.specs.Ordering.{eq_by_cmp}
use Rattle.cat_model.specs.declared.key.Key.{Key}
use Rattle.cat_model.specs.Keys.{key_cmp, key_eq}
use Rattle.cat_model.specs.KeyLaws.{key_eq-same}
use Rattle.cat_model.specs.Values.{Named}
use Rattle.cat_model.specs.Trees.{Change, changed}
use Rattle.cat_model.specs.TypeEffects.{but}
use Rattle.cat_sound.specs.Asked.{Asked}
use Rattle.cat_sound.specs.Asks.{all_there}
use Rattle.cat_sound.specs.Sound.{IsMet}
use Rattle.cat_sound.proofs.Changes.{AreSet, there_left, value_met}

abbrev pub AreThere : Named → List Key → Type 0
AreThere named keys = AllByRecursion (IsMet named) (all_there keys)

-- where no key goes
pub refs_left : (cs : List Change) (named : Named) → AreSet cs → (keys : List Key) → AreThere named keys → AreThere (changed cs named) keys
refs_left cs named all [] met = tt
refs_left cs named all (k ∷ keys) met = (there_left cs named all k met.0, refs_left cs named all keys met.1)

-- where all but the new one were there
pub but_left : (named later : Named) (k : Key) → IsMet later (k, Asked.there) → ((j : Key) → IsMet named (j, Asked.there) → IsMet later (j, Asked.there)) → (keys : List Key) → AreThere named (but k keys) → AreThere later keys
but_left named later k new left [] met = tt
but_left named later k new left (j ∷ keys) met = by (eq_by_cmp key_cmp k j) refl (but_left named later k new left keys) met
  where
    by : (same : Bool) → eq_by_cmp key_cmp k j ≡ same → (AreThere named (but k keys) → AreThere later keys) → AreThere named (if not same then j ∷ but k keys else but k keys) → AreThere later (j ∷ keys)
    by true e more met = (subst (λ (x : Key). IsMet later (x, Asked.there)) (key_eq-same k j e) new, more met)
    by false e more met = (left j met.0, more met.1)

-- what isn't there isn't among keys that are there
pub not_among : (named : Named) (k : Key) (keys : List Key) → get named k ≡ None → AreThere named keys → list_any (key_eq k) keys ≡ false
not_among named k [] none met = refl
not_among named k (j ∷ keys) none met = by (key_eq k j) refl (not_among named k keys none met.1)
  where
    by : (same : Bool) → key_eq k j ≡ same → list_any (key_eq k) keys ≡ false → list_any (key_eq k) (j ∷ keys) ≡ false
    by true e more =
        let found = value_met named (j, Asked.there) met.0 in
        let here : get named k ≡ get named j = ap (get named) (key_eq-same k j e) in
        cc
    by false e more = rw (e, more) refl
