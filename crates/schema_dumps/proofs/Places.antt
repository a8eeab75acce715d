-- What stands at places, each of which is one of these once, is a permutation of the list.
use Rattle.std.proofs.Common.{◌≡◌, ℕ, ◌+◌, ◌<◌, ◌≤◌, Bool, true, false, List, [], ◌∷◌, ◌++◌, length, Option, Some, None, refl, sym, ap, subst, ◌∙◌, append_assoc, append-nil, arith, length-append}
use Rattle.std.specs.Prelude.{nat_eq, filter_map, ◌||◌}
use Rattle.std.specs.List.{AllByRecursion, IsDistinct, cons_option, slice_get}
use Rattle.std.specs.List.Sorted.{IsPermutation}
use Rattle.std.specs.Option.{option_and_then}
use Rattle.std.proofs.lemmas.Bool.{eqb-true, eqb-false}
use Rattle.std.proofs.lemmas.List.Elements.{filter_map-append}
use Rattle.std.proofs.lemmas.List.Sorted.{IsPermutation-refl, IsPermutation-sym, IsPermutation-trans, IsPermutation-cons, IsPermutation-middle, list_any-IsPermutation}
use Rattle.std.proofs.lemmas.Map.Keys.{IsDistinct-head, IsDistinct-tail, IsDistinct-IsPermutation}
use Rattle.graph_walks.specs.Arcs.{is_in}

-- ---- one place

record Split (k : ℕ) (places : List ℕ) : Type 0 where
  front : List ℕ
  back : List ℕ
  is : places ≡ front ++ k ∷ back

split : (k : ℕ) (places : List ℕ) → is_in k places ≡ true → Split k places
split k [] there = absurd cc
split k (p ∷ places) there = by (nat_eq k p) refl there (split k places)
  where
    by : (b : Bool) → nat_eq k p ≡ b → (b || is_in k places) ≡ true → (is_in k places ≡ true → Split k places) → Split k (p ∷ places)
    by true same f later = record { front = []; back = places; is = ap (λ (x : ℕ). x ∷ places) (sym (eqb-true k p same)) }
    by false differs f later = let more = later f in record { front = p ∷ more.front; back = more.back; is = ap (λ (l : List ℕ). p ∷ l) more.is }

abbrev IsWithin : ℕ → ℕ → ℕ → Type 0
IsWithin low high p = (low ≤ p) × (p < high)

without : (low high : ℕ) (front back : List ℕ) → AllByRecursion (IsWithin low high) (front ++ low ∷ back) → AllByRecursion (λ p. nat_eq low p ≡ false) (front ++ back) → AllByRecursion (IsWithin (low + 1) high) (front ++ back)
without low high [] back all apart = later back all.1 apart
  where
    later : (ps : List ℕ) → AllByRecursion (IsWithin low high) ps → AllByRecursion (λ p. nat_eq low p ≡ false) ps → AllByRecursion (IsWithin (low + 1) high) ps
    later [] all apart = tt
    later (p ∷ ps) all apart = ((omega (arith, all.0.0, eqb-false low p apart.0), all.0.1), later ps all.1 apart.1)
without low high (p ∷ front) back all apart = ((omega (arith, all.0.0, eqb-false low p apart.0), all.0.1), without low high front back all.1 apart.1)

moved : (k : ℕ) (front back : List ℕ) → IsPermutation (front ++ k ∷ back) (k ∷ (front ++ back))
moved k front back = IsPermutation-middle front k back

nat_flips : (x y : ℕ) → nat_eq x y ≡ nat_eq y x
nat_flips x y = by (nat_eq x y) refl (nat_eq y x) refl
  where
    by : (a : Bool) → nat_eq x y ≡ a → (b : Bool) → nat_eq y x ≡ b → nat_eq x y ≡ nat_eq y x
    by true e true f = e ∙ sym f
    by false e false f = e ∙ sym f
    by true e false f = absurd (eqb-false y x f (sym (eqb-true x y e)))
    by false e true f = absurd (eqb-false x y e (sym (eqb-true y x f)))

-- ---- all of them

module _ {A B : Type 0} (g : A → Option B) where
  abbrev at : List A → ℕ → Option B
  at xs p = option_and_then g (slice_get xs p)

  joins : (o : Option B) (zs front back : List B) → IsPermutation zs (front ++ back) → IsPermutation (cons_option o zs) (front ++ cons_option o back)
  joins None zs front back same = same
  joins (Some y) zs front back same =
      IsPermutation-trans (y ∷ zs) (y ∷ (front ++ back)) (front ++ y ∷ back) (IsPermutation-cons y zs (front ++ back) same)
      (IsPermutation-sym (front ++ y ∷ back) (y ∷ (front ++ back)) (IsPermutation-middle front y back))

  seam : (pre : List A) (x : A) (xs : List A) → slice_get (pre ++ x ∷ xs) (length pre) ≡ Some x
  seam [] x xs = refl
  seam (y ∷ pre) x xs = seam pre x xs

  from : (pre xs : List A) (places : List ℕ) → AllByRecursion (IsWithin (length pre) (length (pre ++ xs))) places → IsDistinct nat_eq places → ((p : ℕ) → length pre ≤ p → p < length (pre ++ xs) → is_in p places ≡ true)
      → IsPermutation (filter_map g xs) (filter_map (at (pre ++ xs)) places)
  from pre [] [] within once whole = IsPermutation-refl []
  from pre [] (p ∷ places) within once whole = absurd (omega (arith, within.0.0, within.0.1, ap length (append-nil pre)))
  from pre (x ∷ xs) places within once whole =
      let k = length pre in
      let high = length (pre ++ x ∷ xs) in
      let s = split k places (whole k (omega arith) (omega (arith, length-append pre (x ∷ xs)))) in
      let rest = s.front ++ s.back in
      let first = IsDistinct-IsPermutation nat_eq nat_flips (s.front ++ k ∷ s.back) (k ∷ rest) (moved k s.front s.back) (subst (IsDistinct nat_eq) s.is once) in
      let apart = IsDistinct-head nat_eq k rest first in
      let joined : (pre ++ x ∷ []) ++ xs ≡ pre ++ x ∷ xs = append_assoc pre (x ∷ []) xs in
      let more : length (pre ++ x ∷ []) ≡ k + 1 = omega (arith, length-append pre (x ∷ [])) in
      let later : IsPermutation (filter_map g xs) (filter_map (at (pre ++ x ∷ xs)) rest) =
      subst (λ (all : List A). IsPermutation (filter_map g xs) (filter_map (at all) rest)) joined
      (from (pre ++ x ∷ []) xs rest
      (subst (λ (n : ℕ). AllByRecursion (IsWithin n (length ((pre ++ x ∷ []) ++ xs))) rest) (sym more) (subst (λ (all : List A). AllByRecursion (IsWithin (k + 1) (length all)) rest) (sym joined) (without k high s.front s.back (subst (AllByRecursion (IsWithin k high)) s.is within) apart)))
      (IsDistinct-tail nat_eq k rest first)
      (λ p low below. still p rest k
      (sym (list_any-IsPermutation (nat_eq p) (s.front ++ k ∷ s.back) (k ∷ rest) (moved k s.front s.back)) ∙ ap (is_in p) (sym s.is) ∙ whole p (omega (arith, low, more)) (omega (arith, below, ap length joined)))
      (omega (arith, low, more)))) in
      subst (IsPermutation (cons_option (g x) (filter_map g xs))) (sym (parts s.front k s.back (ap (option_and_then g) (seam pre x xs))) ∙ ap (filter_map (at (pre ++ x ∷ xs))) (sym s.is))
      (joins (g x) (filter_map g xs) (filter_map (at (pre ++ x ∷ xs)) s.front) (filter_map (at (pre ++ x ∷ xs)) s.back)
      (subst (IsPermutation (filter_map g xs)) (filter_map-append (at (pre ++ x ∷ xs)) s.front s.back) later))
    where
      still : (p : ℕ) (rest : List ℕ) (k : ℕ) → is_in p (k ∷ rest) ≡ true → k < p → is_in p rest ≡ true
      still p rest k there above = by (nat_eq p k) refl there
        where
          by : (b : Bool) → nat_eq p k ≡ b → (b || is_in p rest) ≡ true → is_in p rest ≡ true
          by true same f = absurd (omega (arith, eqb-true p k same, above))
          by false differs f = f

      parts : (front : List ℕ) (k : ℕ) (back : List ℕ) → at (pre ++ x ∷ xs) k ≡ g x → filter_map (at (pre ++ x ∷ xs)) (front ++ k ∷ back) ≡ filter_map (at (pre ++ x ∷ xs)) front ++ cons_option (g x) (filter_map (at (pre ++ x ∷ xs)) back)
      parts front k back e = filter_map-append (at (pre ++ x ∷ xs)) front (k ∷ back) ∙ ap (λ (o : Option B). filter_map (at (pre ++ x ∷ xs)) front ++ cons_option o (filter_map (at (pre ++ x ∷ xs)) back)) e

  both_chosen : (xs : List A) (places : List ℕ) → filter_map g (filter_map (slice_get xs) places) ≡ filter_map (at xs) places
  both_chosen xs [] = refl
  both_chosen xs (p ∷ places) = by (slice_get xs p) ∙ ap (cons_option (at xs p)) (both_chosen xs places)
    where
      by : (o : Option A) → filter_map g (cons_option o (filter_map (slice_get xs) places)) ≡ cons_option (option_and_then g o) (filter_map g (filter_map (slice_get xs) places))
      by None = refl
      by (Some x) = refl

  pub permuted : (xs : List A) (places : List ℕ) → AllByRecursion (λ p. p < length xs) places → IsDistinct nat_eq places → ((p : ℕ) → p < length xs → is_in p places ≡ true)
      → IsPermutation (filter_map g xs) (filter_map g (filter_map (slice_get xs) places))
  permuted xs places within once whole =
      subst (IsPermutation (filter_map g xs)) (sym (both_chosen xs places)) (from [] xs places (bounds places within) once (λ p low below. whole p below))
    where
      bounds : (ps : List ℕ) → AllByRecursion (λ p. p < length xs) ps → AllByRecursion (IsWithin 0 (length xs)) ps
      bounds [] all = tt
      bounds (p ∷ ps) all = ((omega arith, all.0), bounds ps all.1)
