-- Changes leave each key in order where what they put is in order, and where nobody asked for what they took away.
use Rattle.std.proofs.Common.{◌≡◌, false, List, Option, Some, None, refl, ap, sym, subst, ◌∙◌, inl, inr}
use Rattle.std.specs.FinMap.{get}
use Rattle.std.specs.List.{AllByRecursion}
use Rattle.cat_model.specs.declared.key.Key.{Key}
use Rattle.cat_model.specs.declared.value.Value.{Value}
use Rattle.cat_model.specs.Values.{Named}
use Rattle.cat_model.specs.Trees.{Change, changed}
use Rattle.cat_sound.specs.Texts.{Texts}
use Rattle.cat_sound.specs.Asked.{Asked, Meets, Passes}
use Rattle.cat_sound.specs.Asks.{Ask, asks}
use Rattle.cat_sound.specs.Itself.{Itself}
use Rattle.cat_sound.specs.Sound.{IsMet, IsSoundAt}
use Rattle.cat_sound.proofs.Lists.{IsIn, of_member, of_each}
use Rattle.cat_sound.proofs.Changes.{Settled, settled_in, is_touched}

-- each key is in order
abbrev pub AreSound : Texts → Named → Type 0
AreSound texts named = (k : Key) (v : Value) → get named k ≡ Some v → IsSoundAt texts named k v

-- what is put at a key is in order; where it is taken out nothing is asked
abbrev pub IsNewAt : Texts → Named → Key → Option Value → Type 0
IsNewAt texts named k (Some v) = IsSoundAt texts named k v
IsNewAt texts named k None = Unit {0}

-- what a key that isn't touched asked of the old value, it can ask of the new one
abbrev pub Answers : Named → List Change → Change → Type 0
Answers named cs c = (old : Value) (a : Asked) → get named c.0 ≡ Some old → Meets a old → (j : Key) (u : Value) → is_touched cs j ≡ false → get named j ≡ Some u → IsIn (c.0, a) (asks j u) → Passes c.1 a

pub record IsGood (texts : Texts) (named : Named) (cs : List Change) (c : Change) : Type 0 where
  pub new : IsNewAt texts (changed cs named) c.0 c.1
  pub answers : Answers named cs c

abbrev pub AreGood : Texts → Named → List Change → Type 0
AreGood texts named cs = AllByRecursion (IsGood texts named cs) cs

module _ (texts : Texts) (named : Named) (cs : List Change) (sound : AreSound texts named) (good : AreGood texts named cs) where
  asked_of : (o p : Option Value) (a : Asked) → Passes o a → ((old : Value) → o ≡ Some old → Meets a old → Passes p a) → Passes p a
  asked_of (Some v) p a met step = step v refl met
  asked_of None p a met step = elim met [ ]

  -- what an untouched key asks is met as before, or by what was put there
  still_met : (j : Key) (u : Value) → is_touched cs j ≡ false → get named j ≡ Some u → (ask : Ask) → IsIn ask (asks j u) → IsMet named ask → IsMet (changed cs named) ask
  still_met j u untouched is ask among met = by (settled_in cs named ask.0)
    where
      by : Settled cs ask.0 (get named ask.0) (get (changed cs named) ask.0) → IsMet (changed cs named) ask
      by (inl same) = subst (λ (o : Option Value). Passes o ask.1) (sym same.1) met
      by (inr (c, within, at, put)) =
          subst (λ (o : Option Value). Passes o ask.1) (sym put)
          (asked_of (get named ask.0) c.1 ask.1 met (λ old was fits.
          (of_member (IsGood texts named cs) cs good c within).answers old ask.1 (ap (get named) at ∙ was) fits j u untouched is
          (subst (λ (k : Key). IsIn (k, ask.1) (asks j u)) (sym at) among)))

  pub keeps_each : AreSound texts (changed cs named)
  keeps_each k v is = by (settled_in cs named k)
    where
      by : Settled cs k (get named k) (get (changed cs named) k) → IsSoundAt texts (changed cs named) k v
      by (inl same) =
          let was : get named k ≡ Some v = sym same.1 ∙ is in
          let before = sound k v was in
          record {
            own = before.own;
            others = of_each (IsMet (changed cs named)) (asks k v) (λ ask among. still_met k v same.0 was ask among (of_member (IsMet named) (asks k v) before.others ask among));
          }
      by (inr (c, within, at, put)) =
          let fits : IsNewAt texts (changed cs named) c.0 c.1 = (of_member (IsGood texts named cs) cs good c within).new in
          subst (λ (j : Key). IsSoundAt texts (changed cs named) j v) at
          (subst (IsNewAt texts (changed cs named) c.0) (sym put ∙ is) fits)

-- at a key that wasn't there nothing can have been asked
pub new_answers : (named : Named) (cs : List Change) (c : Change) → get named c.0 ≡ None → Answers named cs c
new_answers named cs c none old a was = cc

-- the new value meets whatever the old one does
pub alike_answers : (named : Named) (cs : List Change) (k : Key) (old new : Value) → get named k ≡ Some old → ((a : Asked) → Meets a old → Meets a new) → Answers named cs (k, Some new)
alike_answers named cs k old new is alike was a at met j u untouched there among =
    let same : was ≡ old = cc in
    alike a (subst (Meets a) same met)

-- the new value meets whatever a value in order at this key does
pub sorted_answers : (texts : Texts) (named : Named) (cs : List Change) (k : Key) (new : Value) → AreSound texts named → ((old : Value) → Itself texts k old → (a : Asked) → Meets a old → Meets a new) → Answers named cs (k, Some new)
sorted_answers texts named cs k new sound alike old a was met j u untouched there among = alike old (sound k old was).own a met
