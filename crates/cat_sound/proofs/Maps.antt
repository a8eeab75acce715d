-- The entries of a finite map are what stands at its keys.
use Rattle.std.proofs.Common.{◌≡◌, Bool, true, false, cond, ◌&&◌, T, List, [], ◌∷◌, Some, refl, ap, sym, subst, ◌∙◌, inl, inr}
use Rattle.std.specs.declared.cmp.Ordering.{Ordering}
use Rattle.std.specs.declared.cmp.Ordering.TheVariants.{Less, Equal, Greater}
use Rattle.std.specs.Ordering.{eq_by_cmp, is_lt, is_eq, ordering_reverse}
use Rattle.std.specs.Cmp.{IsTotalOrder, tied_itself}
use Rattle.std.specs.FinMap.{FinMap, IsAntisymmetric, get, entries, find, is_sorted, entries_sorted, get-entries}
use Rattle.std.specs.FinMap.Entries.{below_all}
use Rattle.cat_sound.proofs.Lists.{IsIn}

-- keys that tie are equal
pub equal_of : {K : Type 0} {R : K → K → Ordering} → IsAntisymmetric R → (a b : K) (answer : Ordering) → R a b ≡ answer → is_eq answer ≡ true → a ≡ b
equal_of exact a b Less e h = cc
equal_of exact a b Equal e h = exact a b e
equal_of exact a b Greater e h = cc

front : (a b : Bool) → T (a && b) → T a
front true b p = tt
front false b p = p

back : (a b : Bool) → T (a && b) → T b
back true b p = p
back false b p = absurd p

turned : (r : Ordering) → T (is_lt r) → is_eq (ordering_reverse r) ≡ false
turned Less p = refl
turned Equal p = absurd p
turned Greater p = refl

later_apart : {K : Type 0} {R : K → K → Ordering} → IsTotalOrder R → (x k : K) → T (is_lt (R x k)) → eq_by_cmp R k x ≡ false
later_apart {R = R} total x k p = ap is_eq (total.antisymm k x) ∙ turned (R x k) p

module _ {K X : Type 0} {R : K → K → Ordering} (total : IsTotalOrder R) (exact : IsAntisymmetric R) where
  found_in : (k q : K) (w v : X) (es : List (K × X)) (same : Bool) → eq_by_cmp R q k ≡ same → cond same (Some w) (find R q es) ≡ Some v → ((find R q es ≡ Some v) → IsIn (q, v) es) → IsIn (q, v) ((k, w) ∷ es)
  found_in k q w v es true tied e later =
      let same : q ≡ k = equal_of exact q k (R q k) refl tied in
      let values : w ≡ v = cc in
      inl (λ i. (sym same i, values i))
  found_in k q w v es false tied e later = inr (later e)

  -- what is found is an entry
  pub find-in : (es : List (K × X)) (q : K) (v : X) → find R q es ≡ Some v → IsIn (q, v) es
  find-in [] q v e = cc
  find-in (x ∷ es) q v e = found_in x.0 q x.1 v es (eq_by_cmp R q x.0) refl e (find-in es q v)

  -- what stands at a key is an entry
  pub entry_of : (m : FinMap R X) (q : K) (v : X) → get m q ≡ Some v → IsIn (q, v) (entries m)
  entry_of m q v e = find-in (entries m) q v (sym (get-entries m q) ∙ e)

  below : (x k : K) (v : X) (es : List (K × X)) → T (below_all R x es) → IsIn (k, v) es → T (is_lt (R x k))
  below x k v [] p among = elim among [ ]
  below x k v (e ∷ es) p (inl same) = subst (λ (y : K × X). T (is_lt (R x y.0))) same (front (is_lt (R x e.0)) (below_all R x es) p)
  below x k v (e ∷ es) p (inr later) = below x k v es (back (is_lt (R x e.0)) (below_all R x es) p) later

  in-find : (es : List (K × X)) → T (is_sorted R es) → (q : K) (v : X) → IsIn (q, v) es → find R q es ≡ Some v
  in-find [] p q v among = elim among [ ]
  in-find (e ∷ es) p q v (inl same) = subst (λ (y : K × X). find R y.0 (e ∷ es) ≡ Some y.1) same (ap (λ (b : Bool). cond b (Some e.1) (find R e.0 es)) (ap is_eq (tied_itself total e.0)))
  in-find (e ∷ es) p q v (inr later) =
      ap (λ (b : Bool). cond b (Some e.1) (find R q es)) (later_apart total e.0 q (below e.0 q v es (front (below_all R e.0 es) (is_sorted R es) p) later))
      ∙ in-find es (back (below_all R e.0 es) (is_sorted R es) p) q v later

  -- an entry is what stands at its key
  pub of_entry : (m : FinMap R X) (q : K) (v : X) → IsIn (q, v) (entries m) → get m q ≡ Some v
  of_entry m q v among = get-entries m q ∙ in-find (entries m) (entries_sorted m) q v among
