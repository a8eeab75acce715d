-- What stands at a key after changes, and what that means for what is asked.
use Rattle.std.proofs.Common.{◌≡◌, ◌⊎◌, ℕ, Bool, true, false, cond, ◌||◌, ◌==◌, List, [], ◌∷◌, ◌++◌, Option, Some, None, is_some, refl, ap, sym, subst, ◌∙◌, inl, inr, true≢false, arith}
use Rattle.std.specs.FinMap.{get}
use Rattle.std.specs.List.{list_any, list_all, AllByRecursion}
use Rattle.std.specs.Cmp.{first_so, second_so}
use Rattle.cat_model.specs.declared.key.Key.{Key}
use Rattle.cat_model.specs.Keys.{key_eq, key_kind}
use Rattle.cat_model.specs.KeyLaws.{key_eq-same}
use Rattle.cat_model.specs.declared.value.Value.{Value}
use Rattle.cat_model.specs.Values.{Named}
use Rattle.cat_model.specs.Trees.{Change, changed}
use Rattle.model_laws.proofs.Changes.{value_after, get-changed}
use Rattle.cat_sound.specs.Asked.{Asked, Meets, Passes}
use Rattle.cat_sound.specs.Asks.{Ask}
use Rattle.cat_sound.specs.Sound.{is_comment, IsMet}
use Rattle.cat_sound.proofs.Lists.{IsIn, of_member}

-- whether one of the changes is at a key
abbrev pub is_touched : List Change → Key → Bool
is_touched cs k = list_any (λ c. key_eq k c.0) cs

-- what stands at a key stood there before, or is what a change put there
abbrev pub Settled : List Change → Key → Option Value → Option Value → Type 0
Settled cs k old new = ((is_touched cs k ≡ false) × (new ≡ old)) ⊎ ((c : Change) × IsIn c cs × (c.0 ≡ k) × (new ≡ c.1))

pub settled : (cs : List Change) (k : Key) (old : Option Value) → Settled cs k old (value_after cs k old)
settled [] k old = inl (refl, refl)
settled (c ∷ cs) k old = by (key_eq k c.0) refl (value_after cs k (cond (key_eq k c.0) c.1 old)) (settled cs k (cond (key_eq k c.0) c.1 old))
  where
    by : (same : Bool) → key_eq k c.0 ≡ same → (new : Option Value) → Settled cs k (cond same c.1 old) new → Settled (c ∷ cs) k old new
    by same e new (inr later) = inr (later.0, inr later.1, later.2, later.3)
    by true e new (inl left) = inr (c, inl refl, sym (key_eq-same k c.0 e), left.1)
    by false e new (inl left) = inl (ap (λ (b : Bool). b || is_touched cs k) e ∙ left.0, left.1)

pub settled_in : (cs : List Change) (named : Named) (k : Key) → Settled cs k (get named k) (get (changed cs named) k)
settled_in cs named k = subst (Settled cs k (get named k)) (sym (get-changed cs named k)) (settled cs k (get named k))

-- ---- what is asked, after changes

module _ (cs : List Change) (named : Named) where
  -- it is met by a value that was put there
  pub now : (ask : Ask) (v : Value) → value_after cs ask.0 (get named ask.0) ≡ Some v → Meets ask.1 v → IsMet (changed cs named) ask
  now ask v is met = subst (λ (o : Option Value). Passes o ask.1) (sym (get-changed cs named ask.0 ∙ is)) met

  -- it is met as before where no change is
  pub left : (ask : Ask) → value_after cs ask.0 (get named ask.0) ≡ get named ask.0 → IsMet named ask → IsMet (changed cs named) ask
  left ask same met = subst (λ (o : Option Value). Passes o ask.1) (sym (get-changed cs named ask.0 ∙ same)) met

-- changes at keys that weren't there
abbrev pub AreNew : Named → List Change → Type 0
AreNew named cs = AllByRecursion (λ c. get named c.0 ≡ None) cs

-- what was there stays
pub new_stays : (cs : List Change) (named : Named) → AreNew named cs → (k : Key) (v : Value) → get named k ≡ Some v → get (changed cs named) k ≡ Some v
new_stays cs named fresh k v is = by (settled_in cs named k)
  where
    by : Settled cs k (get named k) (get (changed cs named) k) → get (changed cs named) k ≡ Some v
    by (inl same) = same.1 ∙ is
    by (inr (c, among, at, put)) =
        let none : get named c.0 ≡ None = of_member (λ c. get named c.0 ≡ None) cs fresh c among in
        let none_here : get named k ≡ None = ap (get named) (sym at) ∙ none in
        cc

there_of : (o : Option Value) (a : Asked) → Passes o a → (v : Value) × (o ≡ Some v)
there_of (Some v) a met = (v, refl)
there_of None a met = elim met [ ]

-- what is met is there
pub value_met : (named : Named) (ask : Ask) → IsMet named ask → (v : Value) × (get named ask.0 ≡ Some v)
value_met named ask met = there_of (get named ask.0) ask.1 met

-- and so what was met stays met
pub new_left : (cs : List Change) (named : Named) → AreNew named cs → (ask : Ask) → IsMet named ask → IsMet (changed cs named) ask
new_left cs named fresh ask met =
    let found = value_met named ask met in
    subst (λ (o : Option Value). Passes o ask.1) (found.1 ∙ sym (new_stays cs named fresh ask.0 found.0 found.1)) met

-- changes none of which takes a key out
abbrev pub AreSet : List Change → Type 0
AreSet cs = AllByRecursion (λ c. is_some c.1 ≡ true) cs

-- where no key goes, what is there stays there
pub there_left : (cs : List Change) (named : Named) → AreSet cs → (k : Key) → IsMet named (k, Asked.there) → IsMet (changed cs named) (k, Asked.there)
there_left cs named all k met = by (settled_in cs named k)
  where
    some : (o : Option Value) → is_some o ≡ true → Passes o Asked.there
    some (Some v) e = tt
    some None e = cc

    by : Settled cs k (get named k) (get (changed cs named) k) → IsMet (changed cs named) (k, Asked.there)
    by (inl same) = subst (λ (o : Option Value). Passes o Asked.there) (sym same.1) met
    by (inr (c, among, at, put)) = subst (λ (o : Option Value). Passes o Asked.there) (sym put) (some c.1 (of_member (λ c. is_some c.1 ≡ true) cs all c among))

-- changes that take out nothing but comments
abbrev pub is_kept : Change → Bool
is_kept c = is_comment c.0 || is_some c.1

abbrev pub are_kept : List Change → Bool
are_kept cs = list_all is_kept cs

kept_among : (cs : List Change) → are_kept cs ≡ true → (c : Change) → IsIn c cs → is_kept c ≡ true
kept_among [] kept c among = elim among [ ]
kept_among (d ∷ cs) kept c (inl same) = subst (λ (x : Change). is_kept x ≡ true) same (first_so (is_kept d) (are_kept cs) kept)
kept_among (d ∷ cs) kept c (inr later) = kept_among cs (second_so (is_kept d) (are_kept cs) kept) c later

-- and so what is there stays there
pub kept_there : (cs : List Change) (named : Named) → are_kept cs ≡ true → (k : Key) → is_comment k ≡ false → IsMet named (k, Asked.there) → IsMet (changed cs named) (k, Asked.there)
kept_there cs named kept k apart met = by (settled_in cs named k)
  where
    some : (comment : Bool) (o : Option Value) → comment ≡ false → comment || is_some o ≡ true → Passes o Asked.there
    some comment (Some v) e h = tt
    some true None e h = cc
    some false None e h = cc

    by : Settled cs k (get named k) (get (changed cs named) k) → IsMet (changed cs named) (k, Asked.there)
    by (inl same) = subst (λ (o : Option Value). Passes o Asked.there) (sym same.1) met
    by (inr (c, among, at, put)) = subst (λ (o : Option Value). Passes o Asked.there) (sym put) (some (is_comment c.0) c.1 (ap is_comment at ∙ apart) (kept_among cs kept c among))

-- what stands at a key is there
pub there_is : (named : Named) (k : Key) (v : Value) → get named k ≡ Some v → IsMet named (k, Asked.there)
there_is named k v is = subst (λ (o : Option Value). Passes o Asked.there) (sym is) tt

-- what stands at a key meets what it meets
pub meets_is : (named : Named) (k : Key) (a : Asked) (v : Value) → get named k ≡ Some v → Meets a v → IsMet named (k, a)
meets_is named k a v is met = subst (λ (o : Option Value). Passes o a) (sym is) met

-- where a value is put that meets whatever the old one did, what was met stays met
pub alike_left : (named : Named) (k : Key) (old new : Value) → get named k ≡ Some old → ((a : Asked) → Meets a old → Meets a new) → (ask : Ask) → IsMet named ask → IsMet (changed ((k, Some new) ∷ []) named) ask
alike_left named k old new is alike ask met = by (key_eq ask.0 k) refl
  where
    by : (same : Bool) → key_eq ask.0 k ≡ same → IsMet (changed ((k, Some new) ∷ []) named) ask
    by true e =
        let here : get named ask.0 ≡ Some old = ap (get named) (key_eq-same ask.0 k e) ∙ is in
        now ((k, Some new) ∷ []) named ask new (rw e refl) (alike ask.1 (subst (λ (o : Option Value). Passes o ask.1) here met))
    by false e = left ((k, Some new) ∷ []) named ask (rw e refl) met

-- ---- changes of several keys

pub value_after-append : (cs ds : List Change) (k : Key) (old : Option Value) → value_after (cs ++ ds) k old ≡ value_after ds k (value_after cs k old)
value_after-append [] ds k old = refl
value_after-append (c ∷ cs) ds k old = value_after-append cs ds k (cond (key_eq k c.0) c.1 old)

pub untouched_value : (cs : List Change) (k : Key) (old : Option Value) → is_touched cs k ≡ false → value_after cs k old ≡ old
untouched_value [] k old e = refl
untouched_value (c ∷ cs) k old e = by (key_eq k c.0) e (untouched_value cs k old)
  where
    by : (same : Bool) → same || is_touched cs k ≡ false → (is_touched cs k ≡ false → value_after cs k old ≡ old) → value_after cs k (cond same c.1 old) ≡ old
    by true h later = cc
    by false h later = later h

-- no change is at a key of this kind
abbrev pub AreOfOther : ℕ → List Change → Type 0
AreOfOther kind cs = AllByRecursion (λ c. (key_kind c.0 == kind) ≡ false) cs

same_number : (n : ℕ) → (n == n) ≡ true
same_number n = grind arith

pub other_untouched : (cs : List Change) (k : Key) → AreOfOther (key_kind k) cs → is_touched cs k ≡ false
other_untouched [] k all = refl
other_untouched (c ∷ cs) k all = by (key_eq k c.0) refl (other_untouched cs k all.1)
  where
    by : (same : Bool) → key_eq k c.0 ≡ same → is_touched cs k ≡ false → key_eq k c.0 || is_touched cs k ≡ false
    by true e later =
        let at : k ≡ c.0 = key_eq-same k c.0 e in
        absurd (true≢false (sym (same_number (key_kind k)) ∙ ap (λ (j : Key). key_kind j == key_kind k) at ∙ all.0))
    by false e later = ap (λ (b : Bool). b || is_touched cs k) e ∙ later
