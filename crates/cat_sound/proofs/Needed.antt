-- No key of an object is there where the object isn't.
use Rattle.std.proofs.Common.{◌≡◌, [], ◌∷◌, Option, Some, None, refl, subst}
use Rattle.std.specs.FinMap.{get}
use Rattle.std.specs.List.{AllByRecursion}
use Rattle.cat_model.specs.declared.key.Key.{Key}
use Rattle.cat_model.specs.declared.key.Key.TheVariants as key
use Rattle.cat_model.specs.declared.value.Value.TheVariants as value
use Rattle.cat_model.specs.declared.value.Value.{Value}
use Rattle.cat_model.specs.Values.{Named}
use Rattle.cat_sound.specs.Texts.{Texts}
use Rattle.cat_sound.specs.Asked.{Asked}
use Rattle.cat_sound.specs.Asks.{asks, object_key}
use Rattle.cat_sound.specs.Itself.{Itself}
use Rattle.cat_sound.specs.Sound.{IsMet}
use Rattle.cat_sound.proofs.Changes.{value_met}
use Rattle.cat_sound.proofs.Keeping.{AreSound}

-- the key without which a key isn't there
abbrev pub needed : Key → Option Key
needed (key.Owner o) = Some (object_key o)
needed (key.Acl o) = Some (object_key o)
needed (key.Default q column) = Some (key.Rel q)
needed (key.Con q name) = Some (key.Rel q)
needed (key.Index q name) = Some (key.Rel q)
needed (key.Rows q) = Some (key.Rel q)
needed (key.SeqVal q) = Some (key.Rel q)
needed (key.OwnedBy q) = Some (key.Rel q)
needed (key.Body q) = Some (key.Rel q)
needed _ = None

abbrev pub IsThere : Named → Option Key → Type 0
IsThere named None = Unit {0}
IsThere named (Some k) = (v : Value) × (get named k ≡ Some v)

module _ (texts : Texts) (named : Named) where
  need_met : (k : Key) (v : Value) → Itself texts k v → AllByRecursion (IsMet named) (asks k v) → IsThere named (needed k)
  need_met (key.Owner o) (value.Owner role) own all = value_met named (object_key o, Asked.ownable) all.1.0
  need_met (key.Owner o) _ own all = elim own [ ]
  need_met (key.Acl o) (value.Grants grants) own all = value_met named (object_key o, Asked.takes grants) all.0
  need_met (key.Acl o) _ own all = elim own [ ]
  need_met (key.Default q column) (value.DefaultText text) own all = value_met named (key.Rel q, Asked.has_columns (column ∷ [])) all.0
  need_met (key.Default q column) _ own all = elim own [ ]
  need_met (key.Con q name) (value.Constraint c) own all = value_met named (key.Rel q, Asked.has_columns c.columns) all.0
  need_met (key.Con q name) _ own all = elim own [ ]
  need_met (key.Index q name) (value.Index i) own all = value_met named (key.Rel q, Asked.has_columns _) all.0
  need_met (key.Index q name) _ own all = elim own [ ]
  need_met (key.Rows q) (value.Rows rows) own all = value_met named (key.Rel q, Asked.holds rows) all.0
  need_met (key.Rows q) _ own all = elim own [ ]
  need_met (key.SeqVal q) (value.SequenceValue n called) own all = value_met named (key.Rel q, Asked.counts n) all.0
  need_met (key.SeqVal q) _ own all = elim own [ ]
  need_met (key.OwnedBy q) (value.OwnedBy table column) own all = value_met named (key.Rel q, Asked.a_sequence) all.0
  need_met (key.OwnedBy q) _ own all = elim own [ ]
  need_met (key.Body q) (value.Body text) own all = value_met named (key.Rel q, Asked.a_view) all.0
  need_met (key.Body q) _ own all = elim own [ ]
  need_met (key.Role name) v own all = tt
  need_met (key.Member role member grantor) v own all = tt
  need_met (key.Schema name) v own all = tt
  need_met (key.UserType q) v own all = tt
  need_met (key.Rel q) v own all = tt
  need_met (key.Comment o) v own all = tt
  need_met (key.Database name) v own all = tt

  -- where the needed key isn't there, neither is the key
  pub none_without : AreSound texts named → (k j : Key) → needed k ≡ Some j → get named j ≡ None → get named k ≡ None
  none_without sound k j is none = by (get named k) refl
    where
      by : (o : Option Value) → get named k ≡ o → o ≡ None
      by None e = refl
      by (Some v) e =
          let at = sound k v e in
          let found : IsThere named (Some j) = subst (IsThere named) is (need_met k v at.own at.others) in
          cc
