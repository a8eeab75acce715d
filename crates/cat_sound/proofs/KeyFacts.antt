-- What the conditions of statements on keys of tables say of a catalogue that is in order.
use Rattle.std.proofs.Common.{◌≡◌, true, false, ◌&&◌, cond, List, [], ◌∷◌, Option, Some, None, refl, ap, sym, subst, ◌∙◌}
use Rattle.std.specs.FinMap.{get, entries, find, get-entries}
use Rattle.cat_model.specs.declared.object.QName.{QName}
use Rattle.cat_model.specs.declared.key.Key.{Key}
use Rattle.cat_model.specs.declared.key.Key.TheVariants as key
use Rattle.cat_model.specs.declared.class.Class.TheVariants as class
use Rattle.cat_model.specs.declared.constraint.ConstraintKind.{ConstraintKind}
use Rattle.cat_model.specs.declared.constraint.ConstraintKind.TheVariants as kinds
use Rattle.cat_model.specs.declared.value.Value.TheVariants as value
use Rattle.cat_model.specs.declared.value.Value.{Value}
use Rattle.cat_model.specs.declared.value.Constraint.{Constraint}
use Rattle.cat_model.specs.Values.{Bytes, Named}
use Rattle.cat_model.specs.Keys.{key_cmp}
use Rattle.cat_model.specs.KeyEffects.{index_path}
use Rattle.cat_model.specs.Trees.{same_path, is_primary, is_unique, there_and_of, class_of}
use Rattle.cat_model.proofs.MarkLaws.{same_path-self}
use Rattle.model_laws.proofs.Exchange.{get-class}
use Rattle.model_laws.proofs.Entries.{EachEntry, class-entries}
use Rattle.cat_sound.specs.Texts.{Texts}
use Rattle.cat_sound.specs.Asked.{Asked}
use Rattle.cat_sound.specs.Beside.{is_primary_at, is_key_at, HasKey}
use Rattle.cat_sound.specs.Sound.{IsMet}
use Rattle.cat_sound.proofs.Changes.{value_met}
use Rattle.cat_sound.proofs.Keeping.{AreSound}

-- where no relation of the name is there, neither is an index of it, nor a key
module _ (texts : Texts) (named : Named) (sound : AreSound texts named) (q : QName) (name : Bytes) (none : get named (key.Rel (index_path q name)) ≡ None) where
  unmet : IsMet named (key.Rel (index_path q name), Asked.index_on q) → ⊥
  unmet met = let there = value_met named (key.Rel (index_path q name), Asked.index_on q) met in cc

  pub no_index : get named (key.Index q name) ≡ None
  no_index = by (get named (key.Index q name)) refl
    where
      by : (o : Option Value) → get named (key.Index q name) ≡ o → o ≡ None
      by None is = refl
      by (Some (value.Index i)) is = absurd (unmet (sound (key.Index q name) (value.Index i) is).others.1.0)
      by (Some v) is = elim (sound (key.Index q name) v is).own [ ]

  no_key_of : (c : Constraint) (kind : ConstraintKind) → get named (key.Con q name) ≡ Some (value.Constraint c) → c.kind ≡ kind → is_unique kind ≡ false
  no_key_of c kinds.Primary is e =
      let others = (sound (key.Con q name) (value.Constraint c) is).others in
      absurd (unmet (rw e at others).1.0)
  no_key_of c kinds.Unique is e =
      let others = (sound (key.Con q name) (value.Constraint c) is).others in
      absurd (unmet (rw e at others).1.0)
  no_key_of c kinds.Foreign is e = refl
  no_key_of c kinds.Check is e = refl

  pub no_key : is_key_at (get named (key.Con q name)) ≡ false
  no_key = by (get named (key.Con q name)) refl
    where
      by : (o : Option Value) → get named (key.Con q name) ≡ o → is_key_at o ≡ false
      by None is = refl
      by (Some (value.Constraint c)) is = no_key_of c c.kind is refl
      by (Some v) is = elim (sound (key.Con q name) v is).own [ ]

-- ---- what a class has

none_in : (named : Named) (es : List (Key × Value)) (k : Key) → entries named ≡ es → es ≡ [] → get named k ≡ None
none_in named es k is empty = get-entries named k ∙ ap (find key_cmp k) (is ∙ empty)

-- a table without a primary key has none by any name
pub no_primary_of : (named : Named) (q : QName) → entries (class_of named (class.PrimaryKeys q)) ≡ [] → (other : Bytes) → is_primary_at (get named (key.Con q other)) ≡ true → ⊥
no_primary_of named q empty other is = by (get named (key.Con q other)) (sym (get-class named (class.PrimaryKeys q) (key.Con q other)) ∙ none_in (class_of named (class.PrimaryKeys q)) [] (key.Con q other) empty refl) is
  where
    by : (o : Option Value) → cond (there_and_of (class.PrimaryKeys q) (key.Con q other) o) o None ≡ None → is_primary_at o ≡ true → ⊥
    by (Some (value.Constraint c)) none primary =
        let of : same_path q q && is_primary c.kind ≡ true = rw (same_path-self q, primary) refl in
        let shown : cond (same_path q q && is_primary c.kind) (Some (value.Constraint c)) None ≡ Some (value.Constraint c) = rw of refl in
        cc
    by (Some v) none primary = cc
    by None none primary = cc

has_first : (named : Named) (parent : QName) (names : List Bytes) (e : Key × Value) (more : List (Key × Value)) → EachEntry (λ k v. (get named k ≡ Some v) × (there_and_of (class.KeysOn parent names) k (get named k) ≡ true)) (e ∷ more) → HasKey named parent names
has_first named parent names e more each = (e.0, e.1, each.0.0, subst (λ (o : Option Value). there_and_of (class.KeysOn parent names) e.0 o ≡ true) each.0.0 each.0.1)

-- the first key that is found is one
pub has_key_of : (named : Named) (parent : QName) (names : List Bytes) (e : Key × Value) (more : List (Key × Value)) → entries (class_of named (class.KeysOn parent names)) ≡ e ∷ more → HasKey named parent names
has_key_of named parent names e more is =
    has_first named parent names e more (subst (EachEntry (λ k v. (get named k ≡ Some v) × (there_and_of (class.KeysOn parent names) k (get named k) ≡ true))) is (class-entries named (class.KeysOn parent names)))
