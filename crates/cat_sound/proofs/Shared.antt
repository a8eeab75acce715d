-- What holds of the whole is left as it is by new types, constraints and indexes that are in order.
use Rattle.std.proofs.Common.{◌≡◌, ◌⊎◌, Bool, true, false, not, List, [], Option, Some, None, refl, ap, sym, subst, ◌∙◌, inl, inr}
use Rattle.std.specs.FinMap.{get}
use Rattle.std.specs.List.{AllByRecursion}
use Rattle.cat_model.specs.declared.object.QName.{QName}
use Rattle.cat_model.specs.declared.key.Key.{Key}
use Rattle.cat_model.specs.declared.key.Key.TheVariants as key
use Rattle.cat_model.specs.declared.class.Class.TheVariants as class
use Rattle.cat_model.specs.declared.type_name.TypeName.{TypeName}
use Rattle.cat_model.specs.declared.value.Value.TheVariants as value
use Rattle.cat_model.specs.declared.value.Value.{Value}
use Rattle.cat_model.specs.declared.value.Constraint.{Constraint}
use Rattle.cat_model.specs.declared.value.Domain.{Domain}
use Rattle.cat_model.specs.Values.{Bytes, Named}
use Rattle.cat_model.specs.KeyEffects.{index_path}
use Rattle.cat_model.specs.Trees.{Change, changed, of_class}
use Rattle.cat_sound.specs.Texts.{Texts}
use Rattle.cat_sound.specs.Beside.{base_of, Ends, is_primary_at, is_key_at, is_index_at, HasKey}
use Rattle.cat_sound.specs.Sound.{IsSound}
use Rattle.cat_sound.proofs.Lists.{IsIn, of_member, all-weaker}
use Rattle.cat_sound.proofs.Changes.{Settled, settled_in}
use Rattle.cat_sound.proofs.Keeping.{AreGood, keeps_each}
use Rattle.cat_sound.proofs.Wholes.{KeepBases, ends_left}

-- a type that is new, or over what it was over; and the chain of a new one ends
pub record IsChained (named : Named) (q : QName) (v : Option Value) : Type 0 where
  pub base : (b : Option TypeName) → base_of (get named (key.UserType q)) ≡ Some b → base_of v ≡ Some b
  pub ends : (d : Domain) → v ≡ Some (value.Domain d) → Ends named d.base

-- a constraint that is new; the index of a key is new too, and the parent of a foreign key has a key
pub record IsNewKey (named : Named) (q : QName) (name : Bytes) (v : Option Value) : Type 0 where
  pub free : get named (key.Con q name) ≡ None
  pub alone : is_key_at v ≡ true → get named (key.Rel (index_path q name)) ≡ None
  pub parent : (c : Constraint) (parent : QName) (names : List Bytes) → v ≡ Some (value.Constraint c) → c.parent ≡ Some (parent, names) → HasKey named parent names

-- an index that is new, with its relation
pub record IsNewIndex (named : Named) (q : QName) (name : Bytes) : Type 0 where
  pub free : get named (key.Index q name) ≡ None
  pub alone : get named (key.Rel (index_path q name)) ≡ None

-- the relation of an index is that of a key, or of an index that no key has
abbrev pub IsOwned : Named → QName → Option Value → Type 0
IsOwned later q (Some (value.IndexOf table)) = is_key_at (get later (key.Con table q.name)) ≡ not (is_index_at (get later (key.Index table q.name)))
IsOwned later q _ = Unit {0}

abbrev pub IsShared : Named → Named → Key → Option Value → Type 0
IsShared named later (key.UserType q) v = IsChained named q v
IsShared named later (key.Con q name) v = IsNewKey named q name v
IsShared named later (key.Index q name) v = IsNewIndex named q name
IsShared named later (key.Rel q) v = IsOwned later q v
IsShared named later _ v = Unit {0}

abbrev pub AreShared : Named → List Change → Type 0
AreShared named cs = AllByRecursion (λ c. IsShared named (changed cs named) c.0 c.1) cs

-- one key at most is put as a primary key, of a table that had none
pub record OnePrimary (named : Named) (cs : List Change) : Type 0 where
  pub at : Key
  pub only : AllByRecursion (λ c. is_primary_at c.1 ≡ true → c.0 ≡ at) cs
  pub first : (q : QName) (name other : Bytes) → at ≡ key.Con q name → is_primary_at (get named (key.Con q other)) ≡ true → ⊥

module _ (texts : Texts) (named : Named) (cs : List Change) (sound : IsSound texts named) (shared : AreShared named cs) where
  shared_at : (k : Key) (c : Change) → IsIn c cs → c.0 ≡ k → IsShared named (changed cs named) k c.1
  shared_at k c among at = subst (λ (j : Key). IsShared named (changed cs named) j c.1) at (of_member (λ d. IsShared named (changed cs named) d.0 d.1) cs shared c among)

  bases_left : KeepBases named (changed cs named)
  bases_left q b was = by (settled_in cs named (key.UserType q))
    where
      by : Settled cs (key.UserType q) (get named (key.UserType q)) (get (changed cs named) (key.UserType q)) → base_of (get (changed cs named) (key.UserType q)) ≡ Some b
      by (inl same) = ap base_of same.1 ∙ was
      by (inr (c, among, at, put)) = ap base_of put ∙ (shared_at (key.UserType q) c among at).base b was

  chains_left : (q : QName) (d : Domain) → get (changed cs named) (key.UserType q) ≡ Some (value.Domain d) → Ends (changed cs named) d.base
  chains_left q d is = by (settled_in cs named (key.UserType q))
    where
      by : Settled cs (key.UserType q) (get named (key.UserType q)) (get (changed cs named) (key.UserType q)) → Ends (changed cs named) d.base
      by (inl same) = ends_left named (changed cs named) bases_left d.base (sound.beside.chains q d (sym same.1 ∙ is))
      by (inr (c, among, at, put)) = ends_left named (changed cs named) bases_left d.base ((shared_at (key.UserType q) c among at).ends d (sym put ∙ is))

  -- keys of tables that were there stay
  con_left : (q : QName) (name : Bytes) (v : Value) → get named (key.Con q name) ≡ Some v → get (changed cs named) (key.Con q name) ≡ Some v
  con_left q name v is = by (settled_in cs named (key.Con q name))
    where
      by : Settled cs (key.Con q name) (get named (key.Con q name)) (get (changed cs named) (key.Con q name)) → get (changed cs named) (key.Con q name) ≡ Some v
      by (inl same) = same.1 ∙ is
      by (inr (c, among, at, put)) = let free = (shared_at (key.Con q name) c among at).free in cc

  index_left : (q : QName) (name : Bytes) (v : Value) → get named (key.Index q name) ≡ Some v → get (changed cs named) (key.Index q name) ≡ Some v
  index_left q name v is = by (settled_in cs named (key.Index q name))
    where
      by : Settled cs (key.Index q name) (get named (key.Index q name)) (get (changed cs named) (key.Index q name)) → get (changed cs named) (key.Index q name) ≡ Some v
      by (inl same) = same.1 ∙ is
      by (inr (c, among, at, put)) = let free = (shared_at (key.Index q name) c among at).free in cc

  key_left : (table : QName) (names : List Bytes) (k : Key) (v : Value) → of_class (class.KeysOn table names) k v ≡ true → get named k ≡ Some v → get (changed cs named) k ≡ Some v
  key_left table names (key.Con q name) v of is = con_left q name v is
  key_left table names (key.Index q name) v of is = index_left q name v is
  key_left table names _ v of is = cc

  has_key_left : (parent : QName) (names : List Bytes) → HasKey named parent names → HasKey (changed cs named) parent names
  has_key_left parent names (k, v, is, of) = (k, v, key_left parent names k v of is, of)

  parents_left : (q : QName) (name : Bytes) (c : Constraint) (parent : QName) (names : List Bytes) → get (changed cs named) (key.Con q name) ≡ Some (value.Constraint c) → c.parent ≡ Some (parent, names) → HasKey (changed cs named) parent names
  parents_left q name c parent names is has = by (settled_in cs named (key.Con q name))
    where
      by : Settled cs (key.Con q name) (get named (key.Con q name)) (get (changed cs named) (key.Con q name)) → HasKey (changed cs named) parent names
      by (inl same) = has_key_left parent names (sound.beside.parents q name c parent names (sym same.1 ∙ is) has)
      by (inr (d, among, at, put)) = has_key_left parent names ((shared_at (key.Con q name) d among at).parent c parent names (sym put ∙ is) has)

  -- ---- primary keys

  module _ (one : OnePrimary named cs) where
    primary_from : (q : QName) (name : Bytes) → is_primary_at (get (changed cs named) (key.Con q name)) ≡ true → (is_primary_at (get named (key.Con q name)) ≡ true) ⊎ (key.Con q name ≡ one.at)
    primary_from q name is = by (settled_in cs named (key.Con q name))
      where
        by : Settled cs (key.Con q name) (get named (key.Con q name)) (get (changed cs named) (key.Con q name)) → (is_primary_at (get named (key.Con q name)) ≡ true) ⊎ (key.Con q name ≡ one.at)
        by (inl same) = inl (ap is_primary_at (sym same.1) ∙ is)
        by (inr (c, among, at, put)) =
            let only : is_primary_at c.1 ≡ true → c.0 ≡ one.at = of_member (λ d. is_primary_at d.1 ≡ true → d.0 ≡ one.at) cs one.only c among in
            inr (sym at ∙ only (ap is_primary_at (sym put) ∙ is))

    primaries_left : (q : QName) (name other : Bytes) → is_primary_at (get (changed cs named) (key.Con q name)) ≡ true → is_primary_at (get (changed cs named) (key.Con q other)) ≡ true → name ≡ other
    primaries_left q name other a b = by (primary_from q name a) (primary_from q other b)
      where
        by : (is_primary_at (get named (key.Con q name)) ≡ true) ⊎ (key.Con q name ≡ one.at) → (is_primary_at (get named (key.Con q other)) ≡ true) ⊎ (key.Con q other ≡ one.at) → name ≡ other
        by (inl old) (inl older) = sound.beside.primaries q name other old older
        by (inl old) (inr new) = absurd (one.first q other name (sym new) old)
        by (inr new) (inl old) = absurd (one.first q name other (sym new) old)
        by (inr new) (inr newer) =
            let same : key.Con q name ≡ key.Con q other = new ∙ sym newer in
            cc

  -- ---- indexes

  at_path : (q table : QName) → get named (key.Rel q) ≡ Some (value.IndexOf table) → index_path table q.name ≡ q
  at_path q table is = let same : q.schema ≡ table.schema = (sound.each (key.Rel q) (value.IndexOf table) is).own in λ i. record { schema = sym same i; name = q.name }

  taken : (q table : QName) → get named (key.Rel q) ≡ Some (value.IndexOf table) → get named (key.Rel (index_path table q.name)) ≡ None → ⊥
  taken q table is none =
      let here : get named (key.Rel q) ≡ None = ap (λ (p : QName). get named (key.Rel p)) (sym (at_path q table is)) ∙ none in
      cc

  same_key_at : (q table : QName) → get named (key.Rel q) ≡ Some (value.IndexOf table) → is_key_at (get (changed cs named) (key.Con table q.name)) ≡ is_key_at (get named (key.Con table q.name))
  same_key_at q table is = by (settled_in cs named (key.Con table q.name))
    where
      no_key : (v : Option Value) → IsNewKey named table q.name v → (holds : Bool) → is_key_at v ≡ holds → is_key_at v ≡ is_key_at (get named (key.Con table q.name))
      no_key v new true e = absurd (taken q table is (new.alone e))
      no_key v new false e = e ∙ sym (ap is_key_at new.free)

      by : Settled cs (key.Con table q.name) (get named (key.Con table q.name)) (get (changed cs named) (key.Con table q.name)) → is_key_at (get (changed cs named) (key.Con table q.name)) ≡ is_key_at (get named (key.Con table q.name))
      by (inl same) = ap is_key_at same.1
      by (inr (c, among, at, put)) = ap is_key_at put ∙ no_key c.1 (shared_at (key.Con table q.name) c among at) (is_key_at c.1) refl

  same_index_at : (q table : QName) → get named (key.Rel q) ≡ Some (value.IndexOf table) → is_index_at (get (changed cs named) (key.Index table q.name)) ≡ is_index_at (get named (key.Index table q.name))
  same_index_at q table is = by (settled_in cs named (key.Index table q.name))
    where
      by : Settled cs (key.Index table q.name) (get named (key.Index table q.name)) (get (changed cs named) (key.Index table q.name)) → is_index_at (get (changed cs named) (key.Index table q.name)) ≡ is_index_at (get named (key.Index table q.name))
      by (inl same) = ap is_index_at same.1
      by (inr (c, among, at, put)) = absurd (taken q table is (shared_at (key.Index table q.name) c among at).alone)

  indexes_left : (q table : QName) → get (changed cs named) (key.Rel q) ≡ Some (value.IndexOf table) → is_key_at (get (changed cs named) (key.Con table q.name)) ≡ not (is_index_at (get (changed cs named) (key.Index table q.name)))
  indexes_left q table is = by (settled_in cs named (key.Rel q))
    where
      by : Settled cs (key.Rel q) (get named (key.Rel q)) (get (changed cs named) (key.Rel q)) → is_key_at (get (changed cs named) (key.Con table q.name)) ≡ not (is_index_at (get (changed cs named) (key.Index table q.name)))
      by (inl same) =
          let was : get named (key.Rel q) ≡ Some (value.IndexOf table) = sym same.1 ∙ is in
          same_key_at q table was ∙ sound.beside.indexes q table was ∙ ap not (sym (same_index_at q table was))
      by (inr (c, among, at, put)) = subst (IsOwned (changed cs named) q) (sym put ∙ is) (shared_at (key.Rel q) c among at)

  -- what such changes leave is in order
  pub keeps_shared : OnePrimary named cs → AreGood texts named cs → IsSound texts (changed cs named)
  keeps_shared one good = record {
    each = keeps_each texts named cs sound.each good;
    beside = record { chains = chains_left; primaries = primaries_left one; indexes = indexes_left; parents = parents_left };
  }

-- no change puts a primary key
pub no_primary : (named : Named) (cs : List Change) → AllByRecursion (λ c. is_primary_at c.1 ≡ false) cs → OnePrimary named cs
no_primary named cs none = record { at = key.Role []; only = all-weaker (λ (c : Change). is_primary_at c.1 ≡ false) (λ (c : Change). is_primary_at c.1 ≡ true → c.0 ≡ key.Role []) (λ c e is. cc) cs none; first = λ q name other e. cc }
