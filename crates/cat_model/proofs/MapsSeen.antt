-- Maps of the code, seen as finite maps: what a look-up, a change and the list of entries say of them.
-- The lists are the entries of a map in any order, as a tree, a table or a map in the order of insertion has them.
use Rattle.std.proofs.Common.{◌≡◌, Bool, true, cond, ◌&&◌, T, List, [], ◌∷◌, Option, Some, None, refl, sym, ap, subst, ◌∙◌}
use Rattle.std.specs.declared.cmp.Ordering.{Ordering}
use Rattle.std.specs.declared.cmp.Ordering.TheVariants.{Less}
use Rattle.std.specs.Cmp.{IsTotalOrder, eq_by_cmp_equiv}
use Rattle.std.specs.FinMap.{IsAntisymmetric, find, is_sorted, get, insert, remove, entries, from_entries, from_sorted, get-from_entries, get-from_sorted, get-insert, get-remove, entries-from_sorted, same_map}
use Rattle.std.specs.FinMap.Entries.{below_all}
use Rattle.std.specs.List.{AllByRecursion}
use Rattle.std.specs.List.Sorted.{IsStrictlySortedBy}
use Rattle.std.specs.Map.{lookup, keys_of}
use Rattle.std.specs.Ordering.{eq_by_cmp, is_lt}

module _ {K X : Type 0} {R : K → K → Ordering} (total : IsTotalOrder R) (same : IsAntisymmetric R) where
  find-lookup : (q : K) (es : List (K × X)) → find R q es ≡ lookup (eq_by_cmp R q) es
  find-lookup q [] = refl
  find-lookup q (e ∷ es) = ap (cond (eq_by_cmp R q e.0) (Some e.1)) (find-lookup q es)

  -- what is found in the map is found among its entries
  pub got_seen : (es : List (K × X)) (q : K) → get (from_entries {R = R} es) q ≡ lookup (eq_by_cmp R q) es
  got_seen es q = get-from_entries total es q ∙ find-lookup q es

  turned : (k q : K) (v o : Option X) → cond (eq_by_cmp R k q) v o ≡ cond (eq_by_cmp R q k) v o
  turned k q v o = ap (λ (b : Bool). cond b v o) ((eq_by_cmp_equiv total).symm k q)

  -- entries of which the one at a key is new stand for the map with that key
  pub set_seen : (es fs : List (K × X)) (k : K) (v : X) → ((q : K) → lookup (eq_by_cmp R q) fs ≡ cond (eq_by_cmp R k q) (Some v) (lookup (eq_by_cmp R q) es)) → from_entries {R = R} fs ≡ insert (from_entries es) k v
  set_seen es fs k v h = same_map total same (from_entries fs) (insert (from_entries es) k v) (λ q.
      got_seen fs q
      ∙ h q
      ∙ turned k q (Some v) (lookup (eq_by_cmp R q) es)
      ∙ ap (cond (eq_by_cmp R q k) (Some v)) (sym (got_seen es q))
      ∙ sym (get-insert total (from_entries es) k v q))

  -- entries without the one at a key stand for the map without that key
  pub taken_seen : (es fs : List (K × X)) (k : K) → ((q : K) → lookup (eq_by_cmp R q) fs ≡ cond (eq_by_cmp R k q) None (lookup (eq_by_cmp R q) es)) → from_entries {R = R} fs ≡ remove (from_entries es) k
  taken_seen es fs k h = same_map total same (from_entries fs) (remove (from_entries es) k) (λ q.
      got_seen fs q
      ∙ h q
      ∙ turned k q None (lookup (eq_by_cmp R q) es)
      ∙ ap (cond (eq_by_cmp R q k) None) (sym (got_seen es q))
      ∙ sym (get-remove total (from_entries es) k q))

  below : (x : K) (es : List (K × X)) → AllByRecursion (λ y. R x y ≡ Less) (keys_of es) → below_all R x es ≡ true
  below x [] h = refl
  below x (e ∷ es) h = ap (λ (o : Ordering). is_lt o && below_all R x es) h.0 ∙ below x es h.1

  rising : (es : List (K × X)) → IsStrictlySortedBy R (keys_of es) → is_sorted R es ≡ true
  unfolding IsStrictlySortedBy
  rising [] h = refl
  rising (e ∷ es) h = ap (λ (b : Bool). b && is_sorted R es) (below e.0 es h.0) ∙ rising es h.1

  -- entries whose keys rise are the map's entries
  pub entries_seen : (es : List (K × X)) → IsStrictlySortedBy R (keys_of es) → entries (from_entries {R = R} es) ≡ es
  entries_seen es h =
      let sorted : T (is_sorted R es) = subst T (sym (rising es h)) tt in
      ap entries (same_map total same (from_entries es) (from_sorted es) (λ q. get-from_entries total es q ∙ sym (get-from_sorted R es q sorted)))
      ∙ entries-from_sorted R es sorted
