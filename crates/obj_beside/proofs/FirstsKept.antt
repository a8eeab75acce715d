-- What stands first beside keys, when one more comes behind them.
use Rattle.std.proofs.Common.{◌≡◌, Bool, true, false, true≢false, cond, List, [], ◌∷◌, ◌++◌, Option, Some, None, is_some, BTreeMap, refl, sym, ap, ◌∙◌}
use Rattle.std.specs.BTreeMap as tree
use Rattle.std.specs.Cmp.{IsEquivalence}
use Rattle.std.specs.declared.cmp.Ordering.{Ordering}
use Rattle.std.specs.Ordering.{eq_by_cmp}
use Rattle.obj_beside.specs.Firsts.{AreFirsts}
use Rattle.obj_graph.specs.Links.{first_at}

push_case : {A : Type 0} (b : Bool) (a : A) (l r more : Option A) → more ≡ cond (is_some l) l r → cond b (Some a) more ≡ cond (is_some (cond b (Some a) l)) (cond b (Some a) l) r
push_case true a l r more e = refl
push_case false a l r more e = e

new_case : {A : Type 0} (b : Bool) (v : A) (l : Option A) → (b ≡ true → is_some l ≡ false) → cond b (Some v) l ≡ cond (is_some l) l (cond b (Some v) None)
new_case true v None free = refl
new_case true v (Some a) free = absurd (true≢false (free refl))
new_case false v None free = refl
new_case false v (Some a) free = refl

old_case : {A : Type 0} (b : Bool) (v : A) (l : Option A) → (b ≡ true → is_some l ≡ true) → l ≡ cond (is_some l) l (cond b (Some v) None)
old_case true v None there = absurd (true≢false (sym (there refl)))
old_case true v (Some a) there = refl
old_case false v None there = refl
old_case false v (Some a) there = refl

module _ {K A : Type 0} (R : K → K → Ordering) (equiv : IsEquivalence (eq_by_cmp R)) where
  -- the same stands first beside equal keys
  first_same : (q k : K) → eq_by_cmp R q k ≡ true → (es : List (K × A)) → first_at R es q ≡ first_at R es k
  first_same q k e [] = refl
  first_same q k e (x ∷ es) = λ j. cond (equiv.congr q k x.0 e j) (Some x.1) (first_same q k e es j)

  first_push : (es : List (K × A)) (q k : K) (v : A) → first_at R (es ++ (k, v) ∷ []) q ≡ cond (is_some (first_at R es q)) (first_at R es q) (cond (eq_by_cmp R q k) (Some v) None)
  first_push [] q k v = refl
  first_push (x ∷ es) q k v = push_case (eq_by_cmp R q x.0) x.1 (first_at R es q) (cond (eq_by_cmp R q k) (Some v) None) (first_at R (es ++ (k, v) ∷ []) q) (first_push es q k v)

  -- whether something stands beside an equal key
  there_same : (old : BTreeMap K A) (es : List (K × A)) (q k : K) (b : Bool) → AreFirsts R old es → is_some (tree.get R old k) ≡ b → eq_by_cmp R q k ≡ true → is_some (first_at R es q) ≡ b
  there_same old es q k b are is e = ap is_some (first_same q k e es) ∙ ap is_some (sym (are k)) ∙ is

  -- a new key comes with its value
  pub firsts_new : (old new : BTreeMap K A) (k : K) (v : A) → is_some (tree.get R old k) ≡ false → ((q : K) → tree.get R new q ≡ cond (eq_by_cmp R k q) (Some v) (tree.get R old q)) → (es : List (K × A)) → AreFirsts R old es → AreFirsts R new (es ++ (k, v) ∷ [])
  firsts_new old new k v free u es are = λ q.
      u q
      ∙ ap (λ b. cond b (Some v) (tree.get R old q)) (equiv.symm k q)
      ∙ ap (cond (eq_by_cmp R q k) (Some v)) (are q)
      ∙ new_case (eq_by_cmp R q k) v (first_at R es q) (there_same old es q k false are free)
      ∙ sym (first_push es q k v)

  -- a key comes that was there
  pub firsts_old : (old : BTreeMap K A) (k : K) (v : A) → is_some (tree.get R old k) ≡ true → (es : List (K × A)) → AreFirsts R old es → AreFirsts R old (es ++ (k, v) ∷ [])
  firsts_old old k v there es are = λ q.
      are q
      ∙ old_case (eq_by_cmp R q k) v (first_at R es q) (there_same old es q k true are there)
      ∙ sym (first_push es q k v)
