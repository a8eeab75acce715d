-- Oids that all of a catalogue has are apart, as its rows need them.
use Rattle.std.proofs.Common.{◌≡◌, inl, inr, cond, ℤ, ℕ, zero, suc, ◌+◌, Bool, true, false, List, [], ◌∷◌, ◌++◌, map, Option, Some, None, IsSome, unwrap_or, refl, sym, ap, subst, ◌∙◌, arith}
use Rattle.std.proofs.lemmas.Bool.Decides.{nat_tests}
use Rattle.std.specs.Cmp.{Equal-is}
use Rattle.std.specs.Cmp.Lexicographic.{nat_list_cmp_total}
use Rattle.std.specs.FinMap.{get, entries, nat_cmp-IsAntisymmetric}
use Rattle.std.specs.List.{slice_get, flat_map}
use Rattle.std.specs.Ordering.{nat_cmp, eq_by_cmp}
use Rattle.cat_model.specs.declared.object.QName.{QName}
use Rattle.cat_model.specs.declared.key.Key.{Key}
use Rattle.cat_model.specs.declared.key.Key.TheVariants as key
use Rattle.cat_model.specs.declared.value.Value.{Value}
use Rattle.cat_model.specs.declared.value.Value.TheVariants as value
use Rattle.cat_model.specs.declared.value.Domain.{Domain}
use Rattle.cat_model.specs.HolderLaws.{bytes_cmp-IsAntisymmetric}
use Rattle.cat_model.specs.KeyLaws.{key_cmp_total, key_cmp-IsAntisymmetric}
use Rattle.cat_model.specs.Values.{Bytes, Named}
use Rattle.cat_names.specs.Lookups.{is_no_oid}
use Rattle.cat_names.specs.Naming.{Entry}
use Rattle.cat_sound.proofs.Lists.{IsIn}
use Rattle.cat_sound.proofs.Maps.{entry_of}
use Rattle.named_tables.specs.Oids.{AreOids, has_oid}
use Rattle.named_tables.proofs.Entries.{in_left, in_right, in_flat}
use Rattle.named_tables.proofs.Rows.{in_place}
use Rattle.named_objects.specs.Oids.{AreCheckOids, AreLabelOids}
use Rattle.object_ids.specs.Slots.{Slot, object, check, label, table_of}
use Rattle.object_ids.specs.Ids.{IdsOf, AreApart}
use Rattle.entry_ids.specs.Ids.{oid_of, of_keys, oids_of}
use Rattle.entry_ids.specs.Entries.{object_slots, check_slots, label_slots, labels_from, slots_of, HaveIds}

some_oid : (a b : ℕ) → Some a ≡ Some b → a ≡ b
some_oid a b e = cc

-- what is there
given : (o : Option ℕ) → IsSome o → (n : ℕ) × (o ≡ Some n)
given (Some n) h = (n, refl)
given None h = cc

not_none : (oid : ℕ) → (oid ≡ 0 → ⊥) → is_no_oid oid ≡ false
not_none oid nonzero = by (eq_by_cmp nat_cmp oid 0) refl
  where
    by : (b : Bool) → eq_by_cmp nat_cmp oid 0 ≡ b → eq_by_cmp nat_cmp oid 0 ≡ false
    by true is = absurd (nonzero (nat_cmp-IsAntisymmetric oid 0 ((Equal-is (nat_cmp oid 0)).0 is)))
    by false is = is

in_mapped : {A B : Type 0} (f : A → B) (xs : List A) (x : A) → IsIn x xs → IsIn (f x) (map f xs)
in_mapped f [] x among = elim among [ ]
in_mapped f (y ∷ xs) x (inl e) = inl (ap f e)
in_mapped f (y ∷ xs) x (inr later) = inr (in_mapped f xs x later)

in_labels : (q : QName) (labels : List Bytes) (from i : ℕ) (l : Bytes) → slice_get labels i ≡ Some l → IsIn (label q (from + i)) (labels_from q from labels)
in_labels q [] from i l at = cc
in_labels q (m ∷ labels) from zero l at = let e : from ≡ from + zero = omega arith in inl (ap (label q) e)
in_labels q (m ∷ labels) from (suc i) l at =
    let e : (from + 1) + i ≡ from + suc i = omega arith in
    inr (subst (λ (n : ℕ). IsIn (label q n) (labels_from q (from + 1) labels)) e (in_labels q labels (from + 1) i l at))

module _ (named : Named) (ids : IdsOf) (apart : AreApart ids) (have : HaveIds ids (slots_of (entries named))) where
  has : (s : Slot) → IsIn s (slots_of (entries named)) → (oid : ℕ) × (get ids.ids s ≡ Some oid)
  has s among = let at = in_place (slots_of (entries named)) s among in given (get ids.ids s) (have at.0 s at.1)

  entry : (k : Key) (v : Value) → get named k ≡ Some v → IsIn (k, v) (entries named)
  entry k v there = entry_of key_cmp_total key_cmp-IsAntisymmetric named k v there

  has_object : (k : Key) (v : Value) → get named k ≡ Some v → has_oid k ≡ true → (oid : ℕ) × (get ids.ids (object k) ≡ Some oid)
  has_object k v there owns =
      has (object k)
      (in_left (object k) (flat_map (λ (e : Entry). object_slots e.0 ++ check_slots e) (entries named)) (flat_map label_slots (entries named))
      (in_flat (λ (e : Entry). object_slots e.0 ++ check_slots e) (entries named) (k, v) (object k) (entry k v there)
      (in_left (object k) (object_slots k) (check_slots (k, v)) (subst (λ (b : Bool). IsIn (object k) (cond b (object k ∷ []) [])) (sym owns) (inl refl)))))

  has_check : (q : QName) (d : Domain) (name text : Bytes) → get named (key.UserType q) ≡ Some (value.Domain d) → get d.checks name ≡ Some text → (oid : ℕ) × (get ids.ids (check q name) ≡ Some oid)
  has_check q d name text there at =
      has (check q name)
      (in_left (check q name) (flat_map (λ (e : Entry). object_slots e.0 ++ check_slots e) (entries named)) (flat_map label_slots (entries named))
      (in_flat (λ (e : Entry). object_slots e.0 ++ check_slots e) (entries named) (key.UserType q, value.Domain d) (check q name) (entry (key.UserType q) (value.Domain d) there)
      (in_right (check q name) (object_slots (key.UserType q)) (check_slots (key.UserType q, value.Domain d))
      (in_mapped (λ (c : Bytes × Bytes). check q c.0) (entries d.checks) (name, text) (entry_of nat_list_cmp_total bytes_cmp-IsAntisymmetric d.checks name text at)))))

  has_label : (q : QName) (labels : List Bytes) (i : ℕ) (l : Bytes) → get named (key.UserType q) ≡ Some (value.Enum labels) → slice_get labels i ≡ Some l → (oid : ℕ) × (get ids.ids (label q i) ≡ Some oid)
  has_label q labels i l there at =
      has (label q i)
      (in_right (label q i) (flat_map (λ (e : Entry). object_slots e.0 ++ check_slots e) (entries named)) (flat_map label_slots (entries named))
      (in_flat label_slots (entries named) (key.UserType q, value.Enum labels) (label q i) (entry (key.UserType q) (value.Enum labels) there)
      (let e : 0 + i ≡ i = omega arith in subst (λ (n : ℕ). IsIn (label q n) (labels_from q 0 labels)) e (in_labels q labels 0 i l at))))

  -- ---- what has the same oid in a table is the same

  one_slot : (s t : Slot) → (oid : ℕ) × (get ids.ids s ≡ Some oid) → (oid : ℕ) × (get ids.ids t ≡ Some oid) → table_of s ≡ table_of t → oid_of ids s ≡ oid_of ids t → s ≡ t
  one_slot s t has_s has_t tables same =
      let at_s : oid_of ids s ≡ has_s.0 = ap (λ (o : Option ℕ). unwrap_or o 0) has_s.1 in
      let at_t : oid_of ids t ≡ has_t.0 = ap (λ (o : Option ℕ). unwrap_or o 0) has_t.1 in
      let both : has_t.0 ≡ has_s.0 = sym at_t ∙ sym same ∙ at_s in
      apart.apart s t has_s.0 has_s.1 (has_t.1 ∙ ap Some both) tables

  some_slot : (s : Slot) → (oid : ℕ) × (get ids.ids s ≡ Some oid) → is_no_oid (oid_of ids s) ≡ false
  some_slot s has_s = ap is_no_oid (ap (λ (o : Option ℕ). unwrap_or o 0) has_s.1) ∙ not_none has_s.0 (apart.some s has_s.0 has_s.1)

  pub are_oids : AreOids named (of_keys ids)
  are_oids = record {
    apart = λ j k v w at_j at_k owns_j owns_k kinds same. ap (λ (s : Slot). s.1) (one_slot (object j) (object k) (has_object j v at_j owns_j) (has_object k w at_k owns_k) kinds same);
    some = λ k v at owns. some_slot (object k) (has_object k v at owns);
  }

  key_path : (p q : QName) (m n : Bytes) → key.Con p m ≡ key.Con q n → (p ≡ q) × (m ≡ n)
  key_path p q m n e = (cc, cc)

  type_path : (p q : QName) → key.UserType p ≡ key.UserType q → p ≡ q
  type_path p q e = cc

  less_two : (i j : ℕ) → i + 2 ≡ j + 2 → i ≡ j
  less_two i j e = omega arith

  not_both : ◌≡◌ {A = ℕ} 1 0 → ⊥
  not_both e = omega arith

  module _ (number : QName → Bytes → ℤ) where
    pub are_check_oids : AreCheckOids named (oids_of ids number)
    are_check_oids = record {
      apart = λ p q d e m n one two at_p at_q has_m has_n same. key_path p q m n (ap (λ (s : Slot). s.1) (one_slot (check p m) (check q n) (has_check p d m one at_p has_m) (has_check q e n two at_q has_n) refl same));
      of_no_table = λ p d m text q n v at_p has_m at_q same. not_both (ap (λ (s : Slot). s.0) (one_slot (check p m) (object (key.Con q n)) (has_check p d m text at_p has_m) (has_object (key.Con q n) v at_q refl) refl same));
      some = λ p d m text at_p has_m. some_slot (check p m) (has_check p d m text at_p has_m);
    }

    tables : (p q : QName) (i j : ℕ) → table_of (label p i) ≡ table_of (label q j)
    tables p q i j = label_table p i ∙ sym (label_table q j)
      where
        label_table : (p : QName) (i : ℕ) → table_of (label p i) ≡ 16
        label_table p i = grind (arith, nat_tests)

    pub are_label_oids : AreLabelOids named (oids_of ids number)
    are_label_oids = record {
      apart = λ p q ls ms i j l m at_p at_q has_l has_m same.
          let is = one_slot (label p i) (label q j) (has_label p ls i l at_p has_l) (has_label q ms j m at_q has_m) (tables p q i j) same in
          (type_path p q (ap (λ (s : Slot). s.1) is), less_two i j (ap (λ (s : Slot). s.0) is));
      some = λ p ls i l at_p has_l. some_slot (label p i) (has_label p ls i l at_p has_l);
    }
