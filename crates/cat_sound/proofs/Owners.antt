-- An index is that of one key, or stands alone.
use Rattle.std.proofs.Common.{◌≡◌, true, false, not, List, [], Option, Some, None, refl, ap, ◌∙◌}
use Rattle.std.specs.FinMap.{get}
use Rattle.cat_model.specs.declared.object.QName.{QName}
use Rattle.cat_model.specs.declared.key.Key.TheVariants as key
use Rattle.cat_model.specs.declared.constraint.ConstraintKind.{ConstraintKind}
use Rattle.cat_model.specs.declared.constraint.ConstraintKind.TheVariants as kinds
use Rattle.cat_model.specs.declared.value.Value.TheVariants as value
use Rattle.cat_model.specs.declared.value.Value.{Value}
use Rattle.cat_model.specs.declared.value.Constraint.{Constraint}
use Rattle.cat_model.specs.declared.value.Index.{Index}
use Rattle.cat_model.specs.Values.{Bytes, Named}
use Rattle.cat_model.specs.KeyEffects.{index_path}
use Rattle.cat_model.specs.Trees.{is_unique}
use Rattle.cat_sound.specs.Texts.{Texts}
use Rattle.cat_sound.specs.Asked.{Asked, Passes}
use Rattle.cat_sound.specs.Beside.{is_key_at, is_index_at}
use Rattle.cat_sound.specs.Sound.{IsMet, IsSound}

module _ (texts : Texts) (named : Named) (sound : IsSound texts named) where
  index_of_kind : (t : QName) (a : Bytes) (c : Constraint) (kind : ConstraintKind) → get named (key.Con t a) ≡ Some (value.Constraint c) → c.kind ≡ kind → is_unique kind ≡ true → IsMet named (key.Rel (index_path t a), Asked.index_on t)
  index_of_kind t a c kinds.Primary is e keyed = let others = (sound.each (key.Con t a) (value.Constraint c) is).others in (rw e at others).1.0
  index_of_kind t a c kinds.Unique is e keyed = let others = (sound.each (key.Con t a) (value.Constraint c) is).others in (rw e at others).1.0
  index_of_kind t a c kinds.Foreign is e keyed = cc
  index_of_kind t a c kinds.Check is e keyed = cc

  key_index : (t : QName) (a : Bytes) (c : Constraint) → get named (key.Con t a) ≡ Some (value.Constraint c) → is_unique c.kind ≡ true → IsMet named (key.Rel (index_path t a), Asked.index_on t)
  key_index t a c is keyed = index_of_kind t a c c.kind is refl keyed

  index_at : (p t : QName) → IsMet named (key.Rel p, Asked.index_on t) → get named (key.Rel p) ≡ Some (value.IndexOf t)
  index_at p t met = by (get named (key.Rel p)) met
    where
      by : (o : Option Value) → Passes o (Asked.index_on t) → o ≡ Some (value.IndexOf t)
      by (Some (value.IndexOf table)) same = ap (λ (x : QName). Some (value.IndexOf x)) same
      by (Some _) met = elim met [ ]
      by None met = elim met [ ]

  -- whose index stands at a path
  same_table : (p r t u : QName) → p ≡ r → IsMet named (key.Rel p, Asked.index_on t) → IsMet named (key.Rel r, Asked.index_on u) → t ≡ u
  same_table p r t u same one two =
      let first = index_at p t one in
      let second : get named (key.Rel p) ≡ Some (value.IndexOf u) = ap (λ (x : QName). get named (key.Rel x)) same ∙ index_at r u two in
      cc

  pub one_key : (t u : QName) (a b : Bytes) (c d : Constraint) → get named (key.Con t a) ≡ Some (value.Constraint c) → is_unique c.kind ≡ true → get named (key.Con u b) ≡ Some (value.Constraint d) → is_unique d.kind ≡ true → index_path t a ≡ index_path u b → (t ≡ u) × (a ≡ b)
  one_key t u a b c d is keyed other other_keyed same = (same_table (index_path t a) (index_path u b) t u same (key_index t a c is keyed) (key_index u b d other other_keyed), ap (λ (x : QName). x.name) same)

  pub one_index : (t u : QName) (a b : Bytes) (i j : Index) → get named (key.Index t a) ≡ Some (value.Index i) → get named (key.Index u b) ≡ Some (value.Index j) → index_path t a ≡ index_path u b → (t ≡ u) × (a ≡ b)
  one_index t u a b i j is other same = (
    same_table (index_path t a) (index_path u b) t u same (sound.each (key.Index t a) (value.Index i) is).others.1.0 (sound.each (key.Index u b) (value.Index j) other).others.1.0,
    ap (λ (x : QName). x.name) same,
  )

  pub not_both : (t u : QName) (a b : Bytes) (i : Index) (c : Constraint) → get named (key.Index t a) ≡ Some (value.Index i) → get named (key.Con u b) ≡ Some (value.Constraint c) → is_unique c.kind ≡ true → index_path t a ≡ index_path u b → ⊥
  not_both t u a b i c is other keyed same =
      let asked = (sound.each (key.Index t a) (value.Index i) is).others.1.0 in
      let table : t ≡ u = same_table (index_path t a) (index_path u b) t u same asked (key_index u b c other keyed) in
      let name : a ≡ b = ap (λ (x : QName). x.name) same in
      let here : get named (key.Con t a) ≡ Some (value.Constraint c) = ap (λ (x : QName). get named (key.Con x a)) table ∙ ap (λ (n : Bytes). get named (key.Con u n)) name ∙ other in
      let one = sound.beside.indexes (index_path t a) t (index_at (index_path t a) t asked) in
      let key_there : is_key_at (get named (key.Con t a)) ≡ true = ap is_key_at here ∙ keyed in
      let index_there : not (is_index_at (get named (key.Index t a))) ≡ false = ap (λ (o : Option Value). not (is_index_at o)) is in
      cc

  any_table : (q : QName) (names : List Bytes) (o : Option Value) → Passes o (Asked.has_columns names) → Passes o (Asked.has_columns [])
  any_table q names (Some (value.Table columns)) met = refl
  any_table q names (Some _) met = elim met [ ]
  any_table q names None met = elim met [ ]

  pub table_of : (q table : QName) → get named (key.Rel q) ≡ Some (value.IndexOf table) → IsMet named (key.Rel table, Asked.has_columns [])
  table_of q table is = by (get named (key.Con table q.name)) refl (get named (key.Index table q.name)) refl (sound.beside.indexes q table is)
    where
      by : (o : Option Value) → get named (key.Con table q.name) ≡ o → (p : Option Value) → get named (key.Index table q.name) ≡ p → is_key_at o ≡ not (is_index_at p) → IsMet named (key.Rel table, Asked.has_columns [])
      by (Some (value.Constraint c)) at p index_at same = any_table table c.columns (get named (key.Rel table)) (sound.each (key.Con table q.name) (value.Constraint c) at).others.0
      by (Some v) at p index_at same = elim (sound.each (key.Con table q.name) v at).own [ ]
      by None at (Some (value.Index i)) index_at same = any_table table _ (get named (key.Rel table)) (sound.each (key.Index table q.name) (value.Index i) index_at).others.0
      by None at (Some v) index_at same = elim (sound.each (key.Index table q.name) v index_at).own [ ]
      by None at None index_at same = cc
