-- Places under keys: what is listed stays, and what is put is listed.
use Rattle.std.proofs.Common.{◌≡◌, ℕ, ◌==◌, Bool, true, false, cond, ◌||◌, true≢false, List, [], ◌∷◌, ◌++◌, Option, Some, None, refl, sym, ap, subst, ◌∙◌}
use Rattle.std.proofs.lemmas.Bool.{eq-eqb, eqb-true}
use Rattle.std.proofs.lemmas.List.Folds.{list_any-append}
use Rattle.std.specs.Global.{Vec}
use Rattle.std.specs.BTreeMap as tree
use Rattle.std.specs.Ordering.{nat_cmp}
use Rattle.std.specs.List.{AllByRecursion, list_any}
use Rattle.std.specs.Option.{option_map_or}
use Rattle.cat_model.specs.declared.class.Mark.{Mark}
use Rattle.cat_model.specs.declared.key.Key.{Key}
use Rattle.cat_model.specs.Keys.{key_cmp, key_eq}
use Rattle.cat_model.specs.KeyLaws.{key_eq-same, key_eq-Decides}
use Rattle.plan_waits.specs.Buckets.{bucket, has, has_id, is_listed, Index, Ids}

-- ---- places

or_first : (a b : Bool) → a ≡ true → a || b ≡ true
or_first true b h = refl
or_first false b h = absurd (true≢false (sym h))

or_second : (a b : Bool) → b ≡ true → a || b ≡ true
or_second true b h = refl
or_second false b h = h

pub has_still : (places : List ℕ) (place i : ℕ) → has places i ≡ true → has (places ++ place ∷ []) i ≡ true
has_still places place i h = list_any-append (λ (p : ℕ). p == i) places (place ∷ []) ∙ or_first (has places i) (has (place ∷ []) i) h

pub has_pushed : (places : List ℕ) (place : ℕ) → has (places ++ place ∷ []) place ≡ true
has_pushed places place = list_any-append (λ (p : ℕ). p == place) places (place ∷ []) ∙ or_second (has places place) (has (place ∷ []) place) (or_first (place == place) false (eq-eqb place place refl))

-- ---- under keys

module _ (m n : Index) (k : Key) (places : Vec ℕ) (at : (q : Key) → tree.get key_cmp n q ≡ cond (key_eq k q) (Some places) (tree.get key_cmp m q)) where
  listed_at : (g : Key) (i : ℕ) (b : Bool) → key_eq k g ≡ b → is_listed n g i ≡ option_map_or (λ (ps : Vec ℕ). has ps.items i) (cond b (Some places) (tree.get key_cmp m g)) false
  listed_at g i b e = ap (λ (o : Option (Vec ℕ)). option_map_or (λ (ps : Vec ℕ). has ps.items i) o false) (at g ∙ ap (λ (s : Bool). cond s (Some places) (tree.get key_cmp m g)) e)

  pub listed_under : (i : ℕ) → has places.items i ≡ true → is_listed n k i ≡ true
  listed_under i h = listed_at k i true ((key_eq-Decides k k).1 refl) ∙ h

  pub listed_stays : ((i : ℕ) → is_listed m k i ≡ true → has places.items i ≡ true) → (g : Key) (i : ℕ) → is_listed m g i ≡ true → is_listed n g i ≡ true
  listed_stays kept g i h = by (key_eq k g) refl
    where
      by : (b : Bool) → key_eq k g ≡ b → is_listed n g i ≡ true
      by true e = listed_at g i true e ∙ kept i (subst (λ (j : Key). is_listed m j i ≡ true) (sym (key_eq-same k g e)) h)
      by false e = listed_at g i false e ∙ h

pub none_listed : (m : Index) (k : Key) (i : ℕ) {A : Type 0} → tree.get key_cmp m k ≡ None → is_listed m k i ≡ true → A
none_listed m k i none h = absurd (true≢false (sym h ∙ ap (λ (o : Option (Vec ℕ)). option_map_or (λ (ps : Vec ℕ). has ps.items i) o false) none))

pub some_listed : (m : Index) (k : Key) (i : ℕ) (places : Vec ℕ) → tree.get key_cmp m k ≡ Some places → is_listed m k i ≡ true → has places.items i ≡ true
some_listed m k i places there h = sym (ap (λ (o : Option (Vec ℕ)). option_map_or (λ (ps : Vec ℕ). has ps.items i) o false) there) ∙ h

-- ---- under marks

pub all_listed : (m n : Index) (place : ℕ) (marks : List Mark) → ((k : Key) (i : ℕ) → is_listed m k i ≡ true → is_listed n k i ≡ true) → AllByRecursion (λ k. is_listed m (bucket k) place ≡ true) marks → AllByRecursion (λ k. is_listed n (bucket k) place ≡ true) marks
all_listed m n place [] kept h = tt
all_listed m n place (x ∷ xs) kept h = (kept (bucket x) place h.0, all_listed m n place xs kept h.1)

pub listed_more : (m : Index) (place : ℕ) (marks : List Mark) (x : Mark) → AllByRecursion (λ k. is_listed m (bucket k) place ≡ true) marks → is_listed m (bucket x) place ≡ true → AllByRecursion (λ k. is_listed m (bucket k) place ≡ true) (marks ++ x ∷ [])
listed_more m place [] x h p = (p, tt)
listed_more m place (y ∷ ys) x h p = (h.0, listed_more m place ys x h.1 p)

-- ---- under dump ids

module _ (m n : Ids) (k : ℕ) (places : Vec ℕ) (at : (q : ℕ) → tree.get nat_cmp n q ≡ cond (k == q) (Some places) (tree.get nat_cmp m q)) where
  id_at : (g : ℕ) (i : ℕ) (b : Bool) → (k == g) ≡ b → has_id n g i ≡ option_map_or (λ (ps : Vec ℕ). has ps.items i) (cond b (Some places) (tree.get nat_cmp m g)) false
  id_at g i b e = ap (λ (o : Option (Vec ℕ)). option_map_or (λ (ps : Vec ℕ). has ps.items i) o false) (at g ∙ ap (λ (s : Bool). cond s (Some places) (tree.get nat_cmp m g)) e)

  pub id_under : (i : ℕ) → has places.items i ≡ true → has_id n k i ≡ true
  id_under i h = id_at k i true (eq-eqb k k refl) ∙ h

  pub id_stays : ((i : ℕ) → has_id m k i ≡ true → has places.items i ≡ true) → (g i : ℕ) → has_id m g i ≡ true → has_id n g i ≡ true
  id_stays kept g i h = by (k == g) refl
    where
      by : (b : Bool) → (k == g) ≡ b → has_id n g i ≡ true
      by true e = id_at g i true e ∙ kept i (subst (λ (j : ℕ). has_id m j i ≡ true) (sym (eqb-true k g e)) h)
      by false e = id_at g i false e ∙ h

pub none_id : (m : Ids) (k : ℕ) (i : ℕ) {A : Type 0} → tree.get nat_cmp m k ≡ None → has_id m k i ≡ true → A
none_id m k i none h = absurd (true≢false (sym h ∙ ap (λ (o : Option (Vec ℕ)). option_map_or (λ (ps : Vec ℕ). has ps.items i) o false) none))

pub some_id : (m : Ids) (k : ℕ) (i : ℕ) (places : Vec ℕ) → tree.get nat_cmp m k ≡ Some places → has_id m k i ≡ true → has places.items i ≡ true
some_id m k i places there h = sym (ap (λ (o : Option (Vec ℕ)). option_map_or (λ (ps : Vec ℕ). has ps.items i) o false) there) ∙ h
