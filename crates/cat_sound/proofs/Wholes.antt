-- What holds of the whole is left as it is by changes that it doesn't look at.
use Rattle.std.proofs.Common.{◌≡◌, ℕ, zero, suc, Bool, true, false, List, Option, Some, None, refl, ap, sym, subst, ◌∙◌, inl, inr}
use Rattle.std.specs.FinMap.{get}
use Rattle.std.specs.List.{AllByRecursion}
use Rattle.cat_model.specs.declared.object.QName.{QName}
use Rattle.cat_model.specs.declared.key.Key.{Key}
use Rattle.cat_model.specs.declared.key.Key.TheVariants as key
use Rattle.cat_model.specs.declared.class.Class.TheVariants as class
use Rattle.cat_model.specs.declared.type_name.TypeName.{TypeName}
use Rattle.cat_model.specs.declared.type_name.TypeName.TheVariants.{Words, Path}
use Rattle.cat_model.specs.declared.value.Value.TheVariants as value
use Rattle.cat_model.specs.declared.value.Value.{Value}
use Rattle.cat_model.specs.Values.{Bytes, Named}
use Rattle.cat_model.specs.Trees.{Change, changed, of_class}
use Rattle.cat_sound.specs.Texts.{Texts}
use Rattle.cat_sound.specs.Beside.{base_of, EndsBehind, EndsWithin, Ends, is_primary_at, IsBeside}
use Rattle.cat_sound.specs.Sound.{IsSound}
use Rattle.cat_sound.proofs.Lists.{of_member}
use Rattle.cat_sound.proofs.Changes.{Settled, settled_in}
use Rattle.cat_sound.proofs.Keeping.{AreGood, keeps_each}

-- types that were there are over what they were over
abbrev pub KeepBases : Named → Named → Type 0
KeepBases named later = (q : QName) (b : Option TypeName) → base_of (get named (key.UserType q)) ≡ Some b → base_of (get later (key.UserType q)) ≡ Some b

ends_behind : (named later : Named) (n : ℕ) (q : QName) → ((b : Option TypeName) → base_of (get named (key.UserType q)) ≡ Some b → base_of (get later (key.UserType q)) ≡ Some b) → ((t : TypeName) → EndsWithin n named t → EndsWithin n later t) → (o : Option (Option TypeName)) → base_of (get named (key.UserType q)) ≡ o → EndsBehind (EndsWithin n named) o → EndsBehind (EndsWithin n later) (base_of (get later (key.UserType q)))
ends_behind named later n q bases step None e h = elim h [ ]
ends_behind named later n q bases step (Some None) e h = subst (EndsBehind (EndsWithin n later)) (sym (bases None e)) tt
ends_behind named later n q bases step (Some (Some t)) e h = subst (EndsBehind (EndsWithin n later)) (sym (bases (Some t) e)) (step t h)

ends_within : (named later : Named) → KeepBases named later → (n : ℕ) (t : TypeName) → EndsWithin n named t → EndsWithin n later t
ends_within named later bases zero (Words text) h = tt
ends_within named later bases zero (Path q) h = h
ends_within named later bases (suc n) (Words text) h = tt
ends_within named later bases (suc n) (Path q) (inl system) = inl system
ends_within named later bases (suc n) (Path q) (inr behind) =
    inr (ends_behind named later n q (bases q) (λ t. ends_within named later bases n t) (base_of (get named (key.UserType q))) refl behind)

-- so chains that ended end
pub ends_left : (named later : Named) → KeepBases named later → (t : TypeName) → Ends named t → Ends later t
ends_left named later bases t (n, h) = (n, ends_within named later bases n t h)

-- ---- changes that nothing on the whole looks at

abbrev pub is_no_index : Option Value → Bool
is_no_index (Some (value.IndexOf table)) = false
is_no_index _ = true

-- types, constraints and indexes are looked at, and relations of indexes
abbrev pub is_aside : Key → Option Value → Bool
is_aside (key.UserType q) v = false
is_aside (key.Con q name) v = false
is_aside (key.Index q name) v = false
is_aside (key.Rel q) v = is_no_index v
is_aside _ v = true

abbrev pub AreAside : List Change → Type 0
AreAside cs = AllByRecursion (λ c. is_aside c.0 c.1 ≡ true) cs

module _ (named : Named) (cs : List Change) (aside : AreAside cs) where
  same_at : (k : Key) → ((v : Option Value) → is_aside k v ≡ true → ⊥) → get (changed cs named) k ≡ get named k
  same_at k looked = by (settled_in cs named k)
    where
      by : Settled cs k (get named k) (get (changed cs named) k) → get (changed cs named) k ≡ get named k
      by (inl same) = same.1
      by (inr (c, among, at, put)) = absurd (looked c.1 (subst (λ (j : Key). is_aside j c.1 ≡ true) at (of_member (λ d. is_aside d.0 d.1 ≡ true) cs aside c among)))

  same_index : (q table : QName) → get (changed cs named) (key.Rel q) ≡ Some (value.IndexOf table) → get named (key.Rel q) ≡ Some (value.IndexOf table)
  same_index q table is = by (settled_in cs named (key.Rel q))
    where
      by : Settled cs (key.Rel q) (get named (key.Rel q)) (get (changed cs named) (key.Rel q)) → get named (key.Rel q) ≡ Some (value.IndexOf table)
      by (inl same) = sym same.1 ∙ is
      by (inr (c, among, at, put)) =
          let so : is_aside (key.Rel q) c.1 ≡ true = subst (λ (j : Key). is_aside j c.1 ≡ true) at (of_member (λ d. is_aside d.0 d.1 ≡ true) cs aside c among) in
          let here : c.1 ≡ Some (value.IndexOf table) = sym put ∙ is in
          let wrong : is_no_index (Some (value.IndexOf table)) ≡ true = subst (λ (o : Option Value). is_no_index o ≡ true) here so in
          cc

  same_type : (q : QName) → get (changed cs named) (key.UserType q) ≡ get named (key.UserType q)
  same_type q = same_at (key.UserType q) (λ v e. cc)

  same_constraint : (q : QName) (name : Bytes) → get (changed cs named) (key.Con q name) ≡ get named (key.Con q name)
  same_constraint q name = same_at (key.Con q name) (λ v e. cc)

  same_table_index : (q : QName) (name : Bytes) → get (changed cs named) (key.Index q name) ≡ get named (key.Index q name)
  same_table_index q name = same_at (key.Index q name) (λ v e. cc)

  key_left : (table : QName) (names : List Bytes) (k : Key) (v : Value) → of_class (class.KeysOn table names) k v ≡ true → get named k ≡ Some v → get (changed cs named) k ≡ Some v
  key_left table names (key.Con q name) v of is = same_constraint q name ∙ is
  key_left table names (key.Index q name) v of is = same_table_index q name ∙ is
  key_left table names _ v of is = cc

  pub aside_beside : IsBeside named → IsBeside (changed cs named)
  aside_beside beside = record {
    chains = λ q d is. ends_left named (changed cs named) (λ r b e. ap base_of (same_type r) ∙ e) d.base (beside.chains q d (sym (same_type q) ∙ is));
    primaries = λ q name other one two. beside.primaries q name other (ap is_primary_at (sym (same_constraint q name)) ∙ one) (ap is_primary_at (sym (same_constraint q other)) ∙ two);
    indexes = λ q table is. rw (same_constraint table q.name, same_table_index table q.name) (beside.indexes q table (same_index q table is));
    parents = λ q name c parent names is has.
        let found = beside.parents q name c parent names (sym (same_constraint q name) ∙ is) has in
        (found.0, found.1, key_left parent names found.0 found.1 found.3 found.2, found.3);
  }

-- what such changes leave is in order
pub keeps_aside : (texts : Texts) (named : Named) (cs : List Change) → IsSound texts named → AreAside cs → AreGood texts named cs → IsSound texts (changed cs named)
keeps_aside texts named cs sound aside good = record { each = keeps_each texts named cs sound.each good; beside = aside_beside named cs aside sound.beside }
