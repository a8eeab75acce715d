-- What is found in the group of a table's keys is what is found among all keys.
use Rattle.std.proofs.Common.{◌≡◌, ℕ, suc, ◌+◌, ℤ, Bool, true, false, cond, List, [], ◌∷◌, map, Option, Some, None, option_and_then, filter_map, refl, sym, ap, ◌∙◌, arith}
use Rattle.std.specs.List.{slice_get, filter, enumerate_from, cons_option}
use Rattle.graph_parts.specs.declared.object.ObjId.{ObjId}
use Rattle.oid_groups.specs.Groups.{Key, group_of, same_oid}
use Rattle.oid_groups.specs.Orders.{placed, by_number}
use Rattle.obj_graph.specs.declared.key_of.KeyOf.{KeyOf}
use Rattle.obj_beside.specs.Keys.{by_table}

abbrev number : ℕ × Key → ℤ
number e = e.1.1

module _ (table : ℕ) where
  -- the keys of the table, with their places
  abbrev entries : ℕ → List KeyOf → List (ℕ × Key)
  entries n ks = filter (λ e. same_oid table e.1.0) (enumerate_from n (map by_table ks))

  -- they are in order as they stand
  placed_first : (m n : ℕ) (k : KeyOf) (ks : List KeyOf) → placed number (m, by_table k) (entries n ks) ≡ (m, by_table k) ∷ entries n ks
  unfolding placed
  placed_first m n k [] = refl
  placed_first m n k (x ∷ xs) = by (same_oid table x.table) (placed_first m (n + 1) k xs)
    where
      by : (b : Bool) → placed number (m, by_table k) (entries (n + 1) xs) ≡ (m, by_table k) ∷ entries (n + 1) xs → placed number (m, by_table k) (cond b ((n, by_table x) ∷ entries (n + 1) xs) (entries (n + 1) xs)) ≡ (m, by_table k) ∷ cond b ((n, by_table x) ∷ entries (n + 1) xs) (entries (n + 1) xs)
      by true e = refl
      by false e = e

  in_order : (n : ℕ) (ks : List KeyOf) → by_number number (entries n ks) ≡ entries n ks
  unfolding by_number
  in_order n [] = refl
  in_order n (x ∷ xs) = by (same_oid table x.table) (in_order (n + 1) xs)
    where
      by : (b : Bool) → by_number number (entries (n + 1) xs) ≡ entries (n + 1) xs → by_number number (cond b ((n, by_table x) ∷ entries (n + 1) xs) (entries (n + 1) xs)) ≡ cond b ((n, by_table x) ∷ entries (n + 1) xs) (entries (n + 1) xs)
      by true e = ap (placed number (n, by_table x)) e ∙ placed_first n (n + 1) x xs
      by false e = e

  module _ (all : List KeyOf) (wanted : KeyOf → Option ObjId) (apart : (k : KeyOf) → same_oid table k.table ≡ false → wanted k ≡ None) where
    -- what is wanted of the key at a place
    abbrev wanted_at : ℕ → Option ObjId
    wanted_at place = option_and_then wanted (slice_get all place)

    found_from : (n : ℕ) (ks : List KeyOf) → ((i : ℕ) → slice_get all (n + i) ≡ slice_get ks i) → filter_map wanted_at (map (λ e. e.0) (entries n ks)) ≡ filter_map wanted ks
    found_from n [] at = refl
    found_from n (x ∷ xs) at =
        let here : n + 0 ≡ n = omega arith in
        by (same_oid table x.table) refl (ap (slice_get all) (sym here) ∙ at 0) (found_from (n + 1) xs (λ i. next i))
      where
        next : (i : ℕ) → slice_get all (n + 1 + i) ≡ slice_get xs i
        next i = let e : n + 1 + i ≡ n + suc i = omega arith in ap (slice_get all) e ∙ at (suc i)

        by : (b : Bool) → same_oid table x.table ≡ b → slice_get all n ≡ Some x → filter_map wanted_at (map (λ e. e.0) (entries (n + 1) xs)) ≡ filter_map wanted xs → filter_map wanted_at (map (λ e. e.0) (cond b ((n, by_table x) ∷ entries (n + 1) xs) (entries (n + 1) xs))) ≡ cons_option (wanted x) (filter_map wanted xs)
        by true is there e = λ j. cons_option (option_and_then wanted (there j)) (e j)
        by false is there e = e ∙ ap (λ o. cons_option o (filter_map wanted xs)) (sym (apart x is))

    pub found_in_group : filter_map wanted_at (group_of (map by_table all) table) ≡ filter_map wanted all
    found_in_group = ap (λ es. filter_map wanted_at (map (λ e. e.0) es)) (in_order 0 all) ∙ found_from 0 all (λ i. at i)
      where
        at : (i : ℕ) → slice_get all (0 + i) ≡ slice_get all i
        at i = let e : 0 + i ≡ i = omega arith in ap (slice_get all) e
