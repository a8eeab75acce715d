-- What one key gives of a class.
use Rattle.std.proofs.Common.{◌≡◌, Bool, true, false, cond, List, [], ◌∷◌, Option, Some, None, option_map, Result, Ok, Err, IfOk, subst, refl, sym, ap, ◌∙◌}
use Rattle.std.specs.FinMap.{get}
use Rattle.std.specs.Map.{lookup_key}
use Rattle.cat_model.specs.declared.class.Class.{Class}
use Rattle.cat_model.specs.declared.key.Key.{Key}
use Rattle.cat_model.specs.declared.value.Value.{Value}
use Rattle.cat_model.specs.Keys.{key_eq}
use Rattle.cat_model.specs.KeyLaws.{key_eq-same}
use Rattle.cat_model.specs.Trees.{of_class, there_and_of}
use Rattle.cat_model.specs.Values.{Named}
use Rattle.eng_map.specs.Picks.{pick}

-- the key that is found is the one that was sought
pub key_found : (q k : Key) (es : List (Key × Value)) → Some k ≡ lookup_key (key_eq q) es → k ≡ q
key_found q k [] e = absurd cc
key_found q k (x ∷ es) e = by (key_found q k es) (key_eq q x.0) refl e
  where
    by : (Some k ≡ lookup_key (key_eq q) es → k ≡ q) → (b : Bool) → key_eq q x.0 ≡ b → Some k ≡ cond b (Some x.0) (lookup_key (key_eq q) es) → k ≡ q
    by later true is e = let same : k ≡ x.0 = cc in same ∙ sym (key_eq-same q x.0 is)
    by later false is e = later e

module _ (named : Named) (class : Class) (k : Key) where
  pick-of : (o : Option Value) → get named k ≡ o → pick named class k ≡ cond (there_and_of class k o) o None
  pick-of o e = ap (λ (v : Option Value). cond (there_and_of class k v) v None) e

  pub pick-there : (v : Value) → get named k ≡ Some v → of_class class k v ≡ true → pick named class k ≡ Some v
  pick-there v e is = pick-of (Some v) e ∙ ap (λ (b : Bool). cond b (Some v) None) is

  pub pick-other : (v : Value) → get named k ≡ Some v → of_class class k v ≡ false → pick named class k ≡ None
  pick-other v e is = pick-of (Some v) e ∙ ap (λ (b : Bool). cond b (Some v) None) is

  pub pick-none : get named k ≡ None → pick named class k ≡ None
  pick-none e = pick-of None e

-- an entry that was found, and none
pub entry_told : (j k : Key) (v : Value) (o : Option Value) → j ≡ k → o ≡ Some v → Some (j, v) ≡ option_map {U = Key × Value} (λ w. (k, w)) o
entry_told j k v o same is = (λ i. Some (same i, v)) ∙ sym (ap (option_map {U = Key × Value} (λ w. (k, w))) is)

pub none_told : (k : Key) (o : Option Value) → o ≡ None → None ≡ option_map {U = Key × Value} (λ w. (k, w)) o
none_told k o is = sym (ap (option_map {U = Key × Value} (λ w. (k, w))) is)

-- what holds of an answer holds of the same answer
pub carried : {A E : Type 0} (r s : Result A E) (P : A → Type 0) → r ≡ s → IfOk s P → IfOk r P
carried r s P e h = subst (λ x. IfOk x P) (sym e) h
