-- Keys that are listed under others: what is listed stays, and each key of a changed map has its place.
use Rattle.std.proofs.Common.{◌≡◌, Bool, true, false, cond, true≢false, List, [], ◌∷◌, ◌++◌, Option, Some, None, refl, sym, ap, subst, ◌∙◌}
use Rattle.std.proofs.lemmas.Option.{none-some}
use Rattle.std.specs.BTreeMap as tree
use Rattle.std.specs.BTreeSet.{BTreeSet, contains}
use Rattle.std.specs.FinMap.{get, get-insert, get-remove}
use Rattle.std.specs.List.{AllByRecursion, list_any}
use Rattle.std.specs.Option.{option_map_or}
use Rattle.cat_model.specs.declared.class.Class.{Class}
use Rattle.cat_model.specs.declared.class.Class.TheVariants as class
use Rattle.cat_model.specs.declared.key.Key.{Key}
use Rattle.cat_model.specs.declared.key.Key.TheVariants as key
use Rattle.cat_model.specs.declared.object.QName.{QName}
use Rattle.cat_model.specs.declared.value.Value.{Value}
use Rattle.cat_model.specs.Keys.{key_cmp, key_eq}
use Rattle.cat_model.specs.KeyLaws.{key_cmp_total, key_eq-same, key_eq-Decides}
use Rattle.cat_model.specs.Marks.{key_of_class}
use Rattle.cat_model.specs.Trees.{Change, changed, changed_at, there_and_of, same_path}
use Rattle.cat_model.specs.Values.{Bytes, Named}
use Rattle.cat_model.specs.Lexemes.{same_text}
use Rattle.cat_model.proofs.MarkLaws.{same_path-equal, same_text-equal, there_and_of-key, not_true}
use Rattle.std.specs.Cmp.{first_so, second_so}
use Rattle.eng_map.specs.Groups.{Groups, group_of, class_group, is_listed, HasPlace, AreGrouped}

-- ---- one more key under another

pub or_stays : (b c : Bool) → c ≡ true → cond b true c ≡ true
or_stays true c h = refl
or_stays false c h = h

module _ (m n : Groups) (group : Key) (keys : BTreeSet Key) (at : (q : Key) → tree.get key_cmp n q ≡ cond (key_eq group q) (Some keys) (tree.get key_cmp m q)) where
  listed_at : (g k : Key) (b : Bool) → key_eq group g ≡ b → is_listed n g k ≡ option_map_or (λ (ks : BTreeSet Key). contains key_cmp ks k) (cond b (Some keys) (tree.get key_cmp m g)) false
  listed_at g k b e = ap (λ (o : Option (BTreeSet Key)). option_map_or (λ (ks : BTreeSet Key). contains key_cmp ks k) o false) (at g ∙ ap (λ (s : Bool). cond s (Some keys) (tree.get key_cmp m g)) e)

  -- what is under the key is what was put there
  pub listed_under : (k : Key) → contains key_cmp keys k ≡ true → is_listed n group k ≡ true
  listed_under k h = listed_at group k true ((key_eq-Decides group group).1 refl) ∙ h

  -- what was listed stays, where what is put under the key has what was there
  pub listed_stays : ((k : Key) → is_listed m group k ≡ true → contains key_cmp keys k ≡ true) → (g k : Key) → is_listed m g k ≡ true → is_listed n g k ≡ true
  listed_stays kept g k h = by (key_eq group g) refl
    where
      by : (b : Bool) → key_eq group g ≡ b → is_listed n g k ≡ true
      by true e = listed_at g k true e ∙ kept k (subst (λ (j : Key). is_listed m j k ≡ true) (sym (key_eq-same group g e)) h)
      by false e = listed_at g k false e ∙ h

-- under a key that lists none nothing was listed
pub none_listed : (m : Groups) (group k : Key) {A : Type 0} → tree.get key_cmp m group ≡ None → is_listed m group k ≡ true → A
none_listed m group k none h = absurd (true≢false (sym h ∙ ap (λ (o : Option (BTreeSet Key)). option_map_or (λ (ks : BTreeSet Key). contains key_cmp ks k) o false) none))

pub some_listed : (m : Groups) (group k : Key) (keys : BTreeSet Key) → tree.get key_cmp m group ≡ Some keys → is_listed m group k ≡ true → contains key_cmp keys k ≡ true
some_listed m group k keys there h = sym (ap (λ (o : Option (BTreeSet Key)). option_map_or (λ (ks : BTreeSet Key). contains key_cmp ks k) o false) there) ∙ h

-- ---- the places of changed keys

pub all_placed : (m n : Groups) (cs : List Change) → ((g k : Key) → is_listed m g k ≡ true → is_listed n g k ≡ true) → AllByRecursion (λ c. HasPlace m c.0) cs → AllByRecursion (λ c. HasPlace n c.0) cs
all_placed m n [] kept h = tt
all_placed m n (c ∷ cs) kept h = (λ group is. kept group c.0 (h.0 group is), all_placed m n cs kept h.1)

pub placed_more : (m : Groups) (cs : List Change) (c : Change) → AllByRecursion (λ c. HasPlace m c.0) cs → HasPlace m c.0 → AllByRecursion (λ c. HasPlace m c.0) (cs ++ c ∷ [])
placed_more m [] c h p = (p, tt)
placed_more m (d ∷ cs) c h p = (h.0, placed_more m cs c h.1 p)

-- ---- each key of a changed map has its place

module _ (groups : Groups) where
  step : (named : Named) (j : Key) (new : Option Value) → HasPlace groups j → AreGrouped (get named) groups → AreGrouped (get (changed_at named j new)) groups
  step named j (Some w) place all k v e = by (key_eq k j) refl
    where
      by : (b : Bool) → key_eq k j ≡ b → HasPlace groups k
      by true is = subst (HasPlace groups) (sym (key_eq-same k j is)) place
      by false is = all k v (sym (ap (λ (b : Bool). cond b (Some w) (get named k)) is) ∙ sym (get-insert key_cmp_total named j w k) ∙ e)
  step named j None place all k v e = by (key_eq k j) refl
    where
      by : (b : Bool) → key_eq k j ≡ b → HasPlace groups k
      by true is = subst (HasPlace groups) (sym (key_eq-same k j is)) place
      by false is = all k v (sym (ap (λ (b : Bool). cond b None (get named k)) is) ∙ sym (get-remove key_cmp_total named j k) ∙ e)

  pub grouped_after : (cs : List Change) (named : Named) → AllByRecursion (λ c. HasPlace groups c.0) cs → AreGrouped (get named) groups → AreGrouped (get (changed cs named)) groups
  grouped_after [] named places all = all
  grouped_after (c ∷ cs) named places all = grouped_after cs (changed_at named c.0 c.1) places.1 (step named c.0 c.1 places.0 all)

pub still_grouped : (named : Named) (m n : Groups) → ((g k : Key) → is_listed m g k ≡ true → is_listed n g k ≡ true) → AreGrouped (get named) m → AreGrouped (get named) n
still_grouped named m n kept all k v e group is = kept group k (all k v e group is)

-- ---- a class and the keys that stand with it

at_table : (t q : QName) → same_path t q ≡ true → Some (key.Rel q) ≡ Some (key.Rel t)
at_table t q h = ap (λ (p : QName). Some (key.Rel p)) (sym (same_path-equal t q h))

pub group-class : (c : Class) (k : Key) → key_of_class c k ≡ true → group_of k ≡ Some (class_group c)
group-class (class.Constraints t) (key.Con q n) h = at_table t q h
group-class (class.Constraints t) _ h = not_true h
group-class (class.Indexes t) (key.Index q n) h = at_table t q h
group-class (class.Indexes t) _ h = not_true h
group-class (class.PrimaryKeys t) (key.Con q n) h = at_table t q h
group-class (class.PrimaryKeys t) _ h = not_true h
group-class (class.KeysOn t names) (key.Con q n) h = at_table t q h
group-class (class.KeysOn t names) (key.Index q n) h = at_table t q h
group-class (class.KeysOn t names) _ h = not_true h
group-class (class.Members r m) (key.Member s n g) h =
    let role : r ≡ s = same_text-equal r s (first_so (same_text r s) (same_text m n) h) in
    let member : m ≡ n = same_text-equal m n (second_so (same_text r s) (same_text m n) h) in
    λ i. Some (key.Member (sym role i) (sym member i) (sym member i))
group-class (class.Members r m) _ h = not_true h

-- each key of a class is among those that are listed under the class's key
pub class_listed : (named : Named) (groups : Groups) (c : Class) → AreGrouped (get named) groups → (k : Key) → there_and_of c k (get named k) ≡ true → is_listed groups (class_group c) k ≡ true
class_listed named groups c all k h = by (get named k) refl h
  where
    by : (o : Option Value) → get named k ≡ o → there_and_of c k o ≡ true → is_listed groups (class_group c) k ≡ true
    by (Some v) e is = all k v e (class_group c) (group-class c k (there_and_of-key c k (Some v) is))
    by None e is = not_true is
