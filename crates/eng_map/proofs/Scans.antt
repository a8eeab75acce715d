-- What is picked among keys that rise and that have each key of the class is the class, in the order of keys.
use Rattle.std.proofs.Common.{◌≡◌, Bool, true, false, cond, true≢false, ◌||◌, ◌&&◌, T, List, [], ◌∷◌, Option, Some, None, refl, sym, ap, subst, ◌∙◌}
use Rattle.std.specs.declared.cmp.Ordering.{Ordering}
use Rattle.std.specs.declared.cmp.Ordering.TheVariants.{Less, Equal}
use Rattle.std.specs.FinMap.{find, is_sorted, get, entries, from_sorted, entries-from_sorted, get-from_sorted, get-retain_keys, same_map}
use Rattle.std.specs.FinMap.Entries.{below_all}
use Rattle.std.specs.List.{AllByRecursion, list_any}
use Rattle.std.specs.List.Sorted.{IsStrictlySortedBy}
use Rattle.std.specs.Ordering.{is_lt}
use Rattle.cat_model.specs.declared.class.Class.{Class}
use Rattle.cat_model.specs.declared.key.Key.{Key}
use Rattle.cat_model.specs.declared.value.Value.{Value}
use Rattle.cat_model.specs.Keys.{key_cmp, key_eq}
use Rattle.cat_model.specs.KeyLaws.{key_cmp_total, key_cmp-IsAntisymmetric, key_eq-same}
use Rattle.cat_model.specs.Trees.{there_and_of, class_of}
use Rattle.cat_model.specs.Values.{Named}
use Rattle.eng_map.specs.Picks.{with_pick, pick, picked}

-- ---- what is found among picked entries

abbrev first_some : Option Value → Option Value → Option Value
first_some (Some v) later = Some v
first_some None later = later

find-with_pick : (q k : Key) (o : Option Value) (more : List (Key × Value)) (b : Bool) → key_eq q k ≡ b → find key_cmp q (with_pick k o more) ≡ cond b (first_some o (find key_cmp q more)) (find key_cmp q more)
find-with_pick q k (Some v) more b e = ap (λ (s : Bool). cond s (Some v) (find key_cmp q more)) e
find-with_pick q k None more true e = refl
find-with_pick q k None more false e = refl

same_again : (o : Option Value) (b : Bool) → first_some o (cond b o None) ≡ o
same_again (Some v) b = refl
same_again None true = refl
same_again None false = refl

module _ (named : Named) (class : Class) where
  pub find-picked : (q : Key) (ks : List Key) → find key_cmp q (picked named class ks) ≡ cond (list_any (key_eq q) ks) (pick named class q) None
  find-picked q [] = refl
  find-picked q (k ∷ ks) = by (find-picked q ks) (key_eq q k) refl
    where
      by : find key_cmp q (picked named class ks) ≡ cond (list_any (key_eq q) ks) (pick named class q) None
          → (b : Bool) → key_eq q k ≡ b → find key_cmp q (with_pick k (pick named class k) (picked named class ks)) ≡ cond (b || list_any (key_eq q) ks) (pick named class q) None
      by again true e =
          find-with_pick q k (pick named class k) (picked named class ks) true e
          ∙ ap (λ (j : Key). first_some (pick named class j) (find key_cmp q (picked named class ks))) (sym (key_eq-same q k e))
          ∙ ap (first_some (pick named class q)) again
          ∙ same_again (pick named class q) (list_any (key_eq q) ks)
      by again false e = find-with_pick q k (pick named class k) (picked named class ks) false e ∙ again

  -- ---- picked entries rise as the keys do

  below-with_pick : (x k : Key) (o : Option Value) (more : List (Key × Value)) → key_cmp x k ≡ Less → below_all key_cmp x more ≡ true → below_all key_cmp x (with_pick k o more) ≡ true
  below-with_pick x k (Some v) more less h = ap (λ (r : Ordering). is_lt r && below_all key_cmp x more) less ∙ h
  below-with_pick x k None more less h = h

  below-picked : (x : Key) (ks : List Key) → AllByRecursion (λ y. key_cmp x y ≡ Less) ks → below_all key_cmp x (picked named class ks) ≡ true
  below-picked x [] h = refl
  below-picked x (k ∷ ks) h = below-with_pick x k (pick named class k) (picked named class ks) h.0 (below-picked x ks h.1)

  rising-with_pick : (k : Key) (o : Option Value) (more : List (Key × Value)) → below_all key_cmp k more ≡ true → is_sorted key_cmp more ≡ true → is_sorted key_cmp (with_pick k o more) ≡ true
  rising-with_pick k (Some v) more below h = ap (λ (b : Bool). b && is_sorted key_cmp more) below ∙ h
  rising-with_pick k None more below h = h

  rising-picked : (ks : List Key) → IsStrictlySortedBy key_cmp ks → is_sorted key_cmp (picked named class ks) ≡ true
  unfolding IsStrictlySortedBy
  rising-picked [] h = refl
  rising-picked (k ∷ ks) h = rising-with_pick k (pick named class k) (picked named class ks) (below-picked k ks h.0) (rising-picked ks h.1)

  -- ---- the class

  covered : (q : Key) (any there : Bool) → (there ≡ true → any ≡ true) → cond any (cond there (get named q) None) None ≡ cond there (get named q) None
  covered q true there h = refl
  covered q false true h = absurd (true≢false (sym (h refl)))
  covered q false false h = refl

  pub scans_are_exact : (ks : List Key) → ((k : Key) → there_and_of class k (get named k) ≡ true → list_any (key_eq k) ks ≡ true) → IsStrictlySortedBy key_cmp ks → picked named class ks ≡ entries (class_of named class)
  scans_are_exact ks all rising =
      let sorted : T (is_sorted key_cmp (picked named class ks)) = subst T (sym (rising-picked ks rising)) tt in
      sym (entries-from_sorted key_cmp (picked named class ks) sorted)
      ∙ ap entries (same_map key_cmp_total key_cmp-IsAntisymmetric (from_sorted (picked named class ks)) (class_of named class) (λ q.
      get-from_sorted key_cmp (picked named class ks) q sorted
      ∙ find-picked q ks
      ∙ covered q (list_any (key_eq q) ks) (there_and_of class q (get named q)) (all q)
      ∙ sym (get-retain_keys named (λ k. there_and_of class k (get named k)) q (λ x tied. ap (λ (k : Key). there_and_of class k (get named k)) (sym (key_cmp-IsAntisymmetric q x tied))))))

  no_keys : IsStrictlySortedBy key_cmp []
  unfolding IsStrictlySortedBy
  no_keys = tt

  -- where no key is of the class, the class is empty
  pub none_of_class : ((k : Key) → there_and_of class k (get named k) ≡ true → ⊥) → [] ≡ entries (class_of named class)
  none_of_class none = scans_are_exact [] (λ k h. absurd (none k h)) no_keys
