-- How often oids occur, and how it is when one more comes behind them.
use Rattle.std.proofs.Common.{◌≡◌, ℕ, ◌+◌, ◌≤◌, Bool, true, false, true≢false, cond, List, [], ◌∷◌, ◌++◌, length, Option, Some, unwrap_or, BTreeMap, refl, sym, ap, ◌∙◌, arith}
use Rattle.std.specs.List.{filter}
use Rattle.std.specs.declared.cmp.Ordering.{Ordering}
use Rattle.std.specs.declared.cmp.Ordering.TheVariants.{Less, Equal, Greater}
use Rattle.std.specs.Ordering.{nat_cmp, is_eq, eq_by_cmp}
use Rattle.std.specs.Cmp.{nat_cmp_total, eq_by_cmp_equiv}
use Rattle.std.specs.FinMap.{nat_cmp-IsAntisymmetric}
use Rattle.std.specs.BTreeMap as tree
use Rattle.cat_names.specs.Indexed.{AreCounts}
use Rattle.cat_names.specs.Lookups.{same_oid, count_of}

one_more : (b : Bool) (x : ℕ) (xs : List ℕ) → length (cond b (x ∷ xs) xs) ≡ length xs + cond b 1 0
one_more true x xs = omega arith
one_more false x xs = omega arith

step : (x : ℕ) (xs : List ℕ) (q : ℕ) → count_of (x ∷ xs) q ≡ count_of xs q + cond (same_oid q x) 1 0
step x xs q = one_more (same_oid q x) x (filter (same_oid q) xs)

most_one : (b : Bool) → cond b 1 0 ≤ 1
most_one true = omega arith
most_one false = omega arith

-- an oid occurs no more often than there are oids
pub count_most : (oids : List ℕ) (q : ℕ) → count_of oids q ≤ length oids
count_most [] q = omega arith
count_most (x ∷ xs) q =
    let s = step x xs q in
    let m = most_one (same_oid q x) in
    let r = count_most xs q in
    omega (arith, s, m, r)

pub count_push : (oids : List ℕ) (o q : ℕ) → count_of (oids ++ o ∷ []) q ≡ count_of oids q + cond (same_oid q o) 1 0
count_push [] o q = step o [] q
count_push (x ∷ xs) o q =
    let a = step x (xs ++ o ∷ []) q in
    let b = count_push xs o q in
    let c = step x xs q in
    omega (arith, a, b, c)

equal : (r : Ordering) → is_eq r ≡ true → r ≡ Equal
equal Less e = absurd (true≢false (sym e))
equal Equal e = refl
equal Greater e = absurd (true≢false (sym e))

by_same : (b : Bool) (n m : ℕ) (o : Option ℕ) → (b ≡ true → n ≡ m) → unwrap_or o 0 ≡ n → unwrap_or (cond b (Some (m + 1)) o) 0 ≡ n + cond b 1 0
by_same true n m o same is = ap (λ k. k + 1) (sym (same refl))
by_same false n m o same is = is ∙ plus_none n
  where
    plus_none : (n : ℕ) → n ≡ n + 0
    plus_none n = omega arith

-- the map keeps the counts when an oid's count rises by one
pub counts_push : (oids : List ℕ) (counts more : BTreeMap ℕ ℕ) (o : ℕ) → AreCounts oids counts
    → ((q : ℕ) → tree.get nat_cmp more q ≡ cond (eq_by_cmp nat_cmp o q) (Some (count_of oids o + 1)) (tree.get nat_cmp counts q)) → AreCounts (oids ++ o ∷ []) more
counts_push oids counts more o are u = λ q.
    ap (λ x. unwrap_or x 0) (u q ∙ ap (λ b. cond b (Some (count_of oids o + 1)) (tree.get nat_cmp counts q)) ((eq_by_cmp_equiv nat_cmp_total).symm o q))
    ∙ by_same (same_oid q o) (count_of oids q) (count_of oids o) (tree.get nat_cmp counts q) (λ e. ap (count_of oids) (nat_cmp-IsAntisymmetric q o (equal (nat_cmp q o) e))) (are q)
    ∙ sym (count_push oids o q)
