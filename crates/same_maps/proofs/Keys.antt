-- Entries of maps of which each is in another map.
use Rattle.std.proofs.Common.{◌≡◌, Bool, true, false, true≢false, cond, List, [], ◌∷◌, Option, Some, None, IsSome, refl, sym, ap, subst, ◌∙◌}
use Rattle.std.proofs.lemmas.Option.{none-some}
use Rattle.std.specs.Cmp.{eq_by_cmp_equiv}
use Rattle.std.specs.FinMap.{from_entries, get, same_map}
use Rattle.std.specs.List.{AllByRecursion, IsDistinct}
use Rattle.std.specs.Map.{lookup, keys_of}
use Rattle.cat_model.specs.declared.key.Key.{Key}
use Rattle.cat_model.specs.declared.value.Value.{Value}
use Rattle.cat_model.specs.Keys.{key_eq}
use Rattle.cat_model.specs.KeyLaws.{key_cmp_total, key_cmp-IsAntisymmetric, key_eq-same, key_eq-Decides}
use Rattle.cat_model.specs.Values.{Named}
use Rattle.cat_model.proofs.MapsSeen.{got_seen}

some_same : (v w : Value) → Some v ≡ Some w → v ≡ w
some_same v w e = cc

-- a key that is found among others
apart : (j : Key) (es : List (Key × Value)) (k : Key) (v : Value) → AllByRecursion (λ i. key_eq j i ≡ false) (keys_of es) → lookup (key_eq k) es ≡ Some v → key_eq k j ≡ false
apart j [] k v others is = absurd (none-some v is)
apart j (e ∷ es) k v others is = by (apart j es k v others.1) (key_eq k e.0) refl is
  where
    by : (lookup (key_eq k) es ≡ Some v → key_eq k j ≡ false) → (b : Bool) → key_eq k e.0 ≡ b → cond b (Some e.1) (lookup (key_eq k) es) ≡ Some v → key_eq k j ≡ false
    by later true same is = ap (λ (i : Key). key_eq i j) (key_eq-same k e.0 same) ∙ (eq_by_cmp_equiv key_cmp_total).symm e.0 j ∙ others.0
    by later false same is = later is

module _ (P : Key → Value → Type 0) where
  -- what holds of each entry holds of what is found
  found : (es : List (Key × Value)) (k : Key) (v : Value) → AllByRecursion (λ e. P e.0 e.1) es → lookup (key_eq k) es ≡ Some v → P k v
  found [] k v all is = absurd (none-some v is)
  found (e ∷ es) k v all is = by (found es k v all.1) (key_eq k e.0) refl is
    where
      by : (lookup (key_eq k) es ≡ Some v → P k v) → (b : Bool) → key_eq k e.0 ≡ b → cond b (Some e.1) (lookup (key_eq k) es) ≡ Some v → P k v
      by later true same is = subst (λ (j : Key). P j v) (sym (key_eq-same k e.0 same)) (subst (P e.0) (some_same e.1 v is) all.0)
      by later false same is = later is

  -- what holds of what is found holds of each entry
  listed : (es : List (Key × Value)) → IsDistinct key_eq (keys_of es) → ((k : Key) (v : Value) → lookup (key_eq k) es ≡ Some v → P k v) → AllByRecursion (λ e. P e.0 e.1) es
  unfolding IsDistinct
  listed [] distinct all = tt
  listed (e ∷ es) distinct all = (
    all e.0 e.1 (ap (λ (b : Bool). cond b (Some e.1) (lookup (key_eq e.0) es)) ((key_eq-Decides e.0 e.0).1 refl)),
    listed es distinct.1 (λ k v is. all k v (ap (λ (b : Bool). cond b (Some e.1) (lookup (key_eq k) es)) (apart e.0 es k v distinct.0 is) ∙ is)),
  )

  -- each entry has it exactly where each that is left has
  abbrev pub AreLeft : List (Key × Value) → List (Key × Value) → Type 0
  AreLeft all left = (AllByRecursion (λ e. P e.0 e.1) left → AllByRecursion (λ e. P e.0 e.1) all) × (AllByRecursion (λ e. P e.0 e.1) all → AllByRecursion (λ e. P e.0 e.1) left)

  pub all_got : (m : Named) (es : List (Key × Value)) → from_entries es ≡ m → AllByRecursion (λ e. P e.0 e.1) es → (k : Key) (v : Value) → get m k ≡ Some v → P k v
  all_got m es seen all k v is = found es k v all (sym (got_seen key_cmp_total key_cmp-IsAntisymmetric es k) ∙ ap (λ (n : Named). get n k) seen ∙ is)

  pub got_all : (m : Named) (es : List (Key × Value)) → from_entries es ≡ m → IsDistinct key_eq (keys_of es) → ((k : Key) (v : Value) → get m k ≡ Some v → P k v) → AllByRecursion (λ e. P e.0 e.1) es
  got_all m es seen distinct all = listed es distinct (λ k v is. all k v (sym (ap (λ (n : Named). get n k) seen) ∙ got_seen key_cmp_total key_cmp-IsAntisymmetric es k ∙ is))

-- each value of a is b's, and each key of b is a's
pub same_maps : (a b : Named) → ((k : Key) (v : Value) → get a k ≡ Some v → get b k ≡ Some v) → ((k : Key) (v : Value) → get b k ≡ Some v → IsSome (get a k)) → a ≡ b
same_maps a b values keys = same_map key_cmp_total key_cmp-IsAntisymmetric a b (λ k. by k (get a k) (get b k) refl refl)
  where
    by : (k : Key) (o p : Option Value) → get a k ≡ o → get b k ≡ p → get a k ≡ get b k
    by k (Some v) p in_a in_b = in_a ∙ sym (values k v in_a)
    by k None None in_a in_b = in_a ∙ sym in_b
    by k None (Some w) in_a in_b = absurd (true≢false (sym (subst (λ (o : Option Value). IsSome o) in_a (keys k w in_b))))
