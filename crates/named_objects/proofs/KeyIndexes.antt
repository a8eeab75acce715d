-- The indexes of keys: a key has one, by its letter and by its kind.
use Rattle.std.proofs.Common.{◌≡◌, ℕ, ◌==◌, ◌||◌, true, ap, refl, Option, Some, None}
use Rattle.std.specs.FinMap.{get}
use Rattle.cat_model.specs.declared.constraint.ConstraintKind.{ConstraintKind}
use Rattle.cat_model.specs.declared.constraint.ConstraintKind.TheVariants as kinds
use Rattle.cat_model.specs.declared.object.QName.{QName}
use Rattle.cat_model.specs.declared.key.Key.{Key}
use Rattle.cat_model.specs.declared.key.Key.TheVariants as key
use Rattle.cat_model.specs.declared.value.Value.{Value}
use Rattle.cat_model.specs.declared.value.Value.TheVariants as value
use Rattle.cat_model.specs.declared.value.Constraint.{Constraint}
use Rattle.cat_model.specs.KeyEffects.{index_path}
use Rattle.cat_model.specs.Trees.{is_unique}
use Rattle.cat_model.specs.Values.{Bytes, Named}
use Rattle.cat_sound.specs.Asked.{Asked, Passes}
use Rattle.cat_sound.specs.Texts.{Texts}
use Rattle.cat_sound.specs.Sound.{IsMet, IsSound}
use Rattle.named_objects.specs.Constraints.{letter_of, index_of, NamedConstraint}

-- a key by its letter
pub keyed_so : (kind : ConstraintKind) → letter_of kind == 112 || letter_of kind == 117 ≡ true → is_unique kind ≡ true
keyed_so kinds.Primary e = refl
keyed_so kinds.Unique e = refl
keyed_so kinds.Foreign e = cc
keyed_so kinds.Check e = cc

pub index_so : (c : NamedConstraint) (oids : Key → ℕ) (kind : ConstraintKind) → is_unique kind ≡ true → index_of oids c kind ≡ oids (key.Rel (index_path c.table c.name))
index_so c oids kinds.Primary e = refl
index_so c oids kinds.Unique e = refl
index_so c oids kinds.Foreign e = cc
index_so c oids kinds.Check e = cc

module _ (texts : Texts) (named : Named) (sound : IsSound texts named) where
  pub index_at : (p t : QName) → IsMet named (key.Rel p, Asked.index_on t) → get named (key.Rel p) ≡ Some (value.IndexOf t)
  index_at p t met = by (get named (key.Rel p)) met
    where
      by : (o : Option Value) → Passes o (Asked.index_on t) → o ≡ Some (value.IndexOf t)
      by (Some (value.IndexOf table)) same = ap (λ (x : QName). Some (value.IndexOf x)) same
      by (Some _) met = elim met [ ]
      by None met = elim met [ ]

  of_kind : (t : QName) (a : Bytes) (c : Constraint) (kind : ConstraintKind) → get named (key.Con t a) ≡ Some (value.Constraint c) → c.kind ≡ kind → is_unique kind ≡ true → IsMet named (key.Rel (index_path t a), Asked.index_on t)
  of_kind t a c kinds.Primary is e keyed = let others = (sound.each (key.Con t a) (value.Constraint c) is).others in (rw e at others).1.0
  of_kind t a c kinds.Unique is e keyed = let others = (sound.each (key.Con t a) (value.Constraint c) is).others in (rw e at others).1.0
  of_kind t a c kinds.Foreign is e keyed = cc
  of_kind t a c kinds.Check is e keyed = cc

  pub key_index : (t : QName) (a : Bytes) (c : Constraint) → get named (key.Con t a) ≡ Some (value.Constraint c) → is_unique c.kind ≡ true → IsMet named (key.Rel (index_path t a), Asked.index_on t)
  key_index t a c is keyed = of_kind t a c c.kind is refl keyed
