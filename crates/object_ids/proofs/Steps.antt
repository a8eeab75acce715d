-- The fields of `Ids` as an oid is given: they stay apart, whatever fails.
use Rattle.std.proofs.Common.{◌≡◌, ℕ, false, List, [], Result, Ok, Err, OnOk, OnErr, sym, subst}
use Rattle.std.specs.FinMap as map
use Rattle.std.specs.FinMap.{from_entries}
use Rattle.std.specs.FinSet as set
use Rattle.std.specs.FinSet.{FinSet, contains, from_list}
use Rattle.std.specs.Ordering.{nat_cmp}
use Rattle.object_ids.specs.Slots.{Slot, slot_cmp, table_of}
use Rattle.object_ids.specs.Ids.{IdsOf, Row, row_cmp, AreApart, added}
use Rattle.object_ids.proofs.Apart.{none_apart, avoiding_apart, row_apart, added_apart}

abbrev pub seen : List (Slot × ℕ) → List Row → FinSet nat_cmp → IdsOf
seen es ks u = record { ids = from_entries {R = slot_cmp} es; rows = from_list {R = row_cmp} ks; used = u }

pub nothing_apart : (es : List (Slot × ℕ)) (ks : List Row) (u : FinSet nat_cmp) → es ≡ [] → ks ≡ [] → u ≡ set.empty → AreApart (seen es ks u)
nothing_apart es ks u no_ids no_rows unused =
    subst (λ (u : FinSet nat_cmp). AreApart (seen es ks u)) (sym unused)
    (subst (λ (ks : List Row). AreApart (seen es ks set.empty)) (sym no_rows)
    (subst (λ (es : List (Slot × ℕ)). AreApart (seen es [] set.empty)) (sym no_ids) none_apart))

module _ (es : List (Slot × ℕ)) (ks : List Row) (u v : FinSet nat_cmp) (oid : ℕ) (apart : AreApart (seen es ks u)) where
  pub used_put : {A E : Type 0} (r : Result A E) → OnOk r (v ≡ set.insert u oid) → OnErr r (v ≡ u) → AreApart (seen es ks v)
  used_put (Ok x) ok err = subst (λ (w : FinSet nat_cmp). AreApart (seen es ks w)) (sym ok) (avoiding_apart (seen es ks u) apart oid)
  used_put (Err e) ok err = subst (λ (w : FinSet nat_cmp). AreApart (seen es ks w)) (sym err) apart

  module _ (used : v ≡ set.insert u oid) where
    pub row_failed : (js : List Row) → js ≡ ks → AreApart (seen es js v)
    row_failed js same =
        subst (λ (js : List Row). AreApart (seen es js v)) (sym same)
        (subst (λ (w : FinSet nat_cmp). AreApart (seen es ks w)) (sym used) (avoiding_apart (seen es ks u) apart oid))

    module _ (s : Slot) (js : List Row) (rows : from_list {R = row_cmp} js ≡ set.insert (from_list ks) (table_of s, oid)) where
      pub id_failed : (fs : List (Slot × ℕ)) → fs ≡ es → AreApart (seen fs js v)
      id_failed fs same =
          let all : seen fs js v ≡ record { ids = from_entries {R = slot_cmp} es; rows = set.insert (from_list ks) (table_of s, oid); used = set.insert u oid } = λ i. record { ids = from_entries {R = slot_cmp} (same i); rows = rows i; used = used i } in
          subst AreApart (sym all) (row_apart (seen es ks u) apart (table_of s) oid)

      pub added_seen : (fs : List (Slot × ℕ)) → from_entries {R = slot_cmp} fs ≡ map.insert (from_entries es) s oid → seen fs js v ≡ added (seen es ks u) s oid
      added_seen fs ids = λ i. record { ids = ids i; rows = rows i; used = used i }

      module _ (free : contains (from_list {R = row_cmp} ks) (table_of s, oid) ≡ false) (nonzero : oid ≡ 0 → ⊥) where
        pub id_put : (fs : List (Slot × ℕ)) → from_entries {R = slot_cmp} fs ≡ map.insert (from_entries es) s oid → AreApart (seen fs js v)
        id_put fs ids = subst AreApart (sym (added_seen fs ids)) (added_apart (seen es ks u) apart s oid free nonzero)

        pub either_put : {A E : Type 0} (r : Result A E) (fs : List (Slot × ℕ)) → OnOk r (from_entries {R = slot_cmp} fs ≡ map.insert (from_entries es) s oid) → OnErr r (fs ≡ es) → AreApart (seen fs js v)
        either_put (Ok x) fs ok err = id_put fs ok
        either_put (Err e) fs ok err = id_failed fs err
