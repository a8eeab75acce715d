-- What isn't in order, each by the one thing that is wrong.
use Rattle.std.proofs.Common.{◌≡◌, ℕ, zero, suc, ◌==◌, Bool, true, false, not, ◌&&◌, length, List, ◌∷◌, Option, Some, None, ap, subst, ◌∙◌, inl, inr, codes, true≢false, ℤ}
use Rattle.std.specs.FinMap.{get}
use Rattle.std.specs.List.{list_all}
use Rattle.cat_model.specs.declared.object.QName.{QName}
use Rattle.cat_model.specs.declared.object.Object.{Object}
use Rattle.cat_model.specs.declared.object.Object.TheVariants as object
use Rattle.cat_model.specs.declared.key.Key.{Key}
use Rattle.cat_model.specs.declared.key.Key.TheVariants as key
use Rattle.cat_model.specs.declared.type_name.TypeName.{TypeName}
use Rattle.cat_model.specs.declared.type_name.TypeName.TheVariants.{Path}
use Rattle.cat_model.specs.declared.value.Value.TheVariants as value
use Rattle.cat_model.specs.declared.value.Value.{Value}
use Rattle.cat_model.specs.declared.value.Column.{Column}
use Rattle.cat_model.specs.declared.value.Constraint.{Constraint}
use Rattle.cat_model.specs.declared.value.Domain.{Domain}
use Rattle.cat_model.specs.declared.value.Sequence.{Sequence}
use Rattle.cat_model.specs.declared.holder.Holder.{Holder}
use Rattle.cat_model.specs.declared.holder.Item.{Item}
use Rattle.cat_model.specs.declared.holder.Holder.TheVariants.{Role as ROLE}
use Rattle.cat_model.specs.Values.{Bytes, Named, Grants, Row}
use Rattle.cat_model.specs.References.{is_system}
use Rattle.cat_model.specs.RelationEffects.{within}
use Rattle.cat_model.specs.Tables.{columns_there}
use Rattle.cat_model.specs.Grants.{table_rights}
use Rattle.cat_sound.specs.Texts.{Texts}
use Rattle.cat_sound.specs.Rights.{is_within}
use Rattle.cat_sound.specs.Asked.{Asked, Passes, is_row}
use Rattle.cat_sound.specs.Beside.{base_of, EndsBehind, EndsWithin, is_primary_at, is_key_at, is_index_at, HasKey}
use Rattle.cat_sound.specs.Sound.{IsMet, IsSound}
use Rattle.cat_sound.proofs.NewGrants.{met_holders}

module _ (texts : Texts) (named : Named) (sound : IsSound texts named) where
  passes_at : (k : Key) (a : Asked) (o : Option Value) → get named k ≡ o → IsMet named (k, a) → Passes o a
  passes_at k a o is met = subst (λ (x : Option Value). Passes x a) is met

  pub no_schema : (q : QName) (v : Value) → get named (key.Rel q) ≡ Some v → get named (key.Schema q.schema) ≡ None → ⊥
  no_schema q v is none = passes_at (key.Schema q.schema) Asked.there None none (sound.each (key.Rel q) v is).others.0

  pub no_role : (o : Object) (role : Bytes) → get named (key.Owner o) ≡ Some (value.Owner role) → get named (key.Role role) ≡ None → ⊥
  no_role o role is none = passes_at (key.Role role) Asked.there None none (sound.each (key.Owner o) (value.Owner role) is).others.0

  pub no_owner : (q : QName) (columns : List Column) → get named (key.Rel q) ≡ Some (value.Table columns) → get named (key.Owner (object.Relation q)) ≡ None → ⊥
  no_owner q columns is none = passes_at (key.Owner (object.Relation q)) Asked.there None none (sound.each (key.Rel q) (value.Table columns) is).others.1.1.0

  pub no_column : (q : QName) (name : Bytes) (c : Constraint) (columns : List Column) → get named (key.Con q name) ≡ Some (value.Constraint c) → get named (key.Rel q) ≡ Some (value.Table columns) → columns_there columns c.columns ≡ false → ⊥
  no_column q name c columns is table missing =
      let have : columns_there columns c.columns ≡ true = passes_at (key.Rel q) (Asked.has_columns c.columns) (Some (value.Table columns)) table (sound.each (key.Con q name) (value.Constraint c) is).others.0 in
      cc

  pub no_public : (v : Value) → get named (key.Role (codes "public")) ≡ Some v → ⊥
  no_public (value.Role role) is = let own = (sound.each (key.Role (codes "public")) (value.Role role) is).own in true≢false own
  no_public v is = (sound.each (key.Role (codes "public")) v is).own

  not_both : (a b c : Bool) → a ≡ false → (a && b) && c ≡ true → ⊥
  not_both true b c e h = cc
  not_both false b c e h = cc

  pub too_few : (q : QName) (row : Row) (rows : List Row) (columns : List Column) → get named (key.Rows q) ≡ Some (value.Rows (row ∷ rows)) → get named (key.Rel q) ≡ Some (value.Table columns) → (length row == length columns) ≡ false → ⊥
  too_few q row rows columns is table wrong =
      not_both (length row == length columns) (not (length row == 0)) (list_all (is_row columns) rows) wrong
      (passes_at (key.Rel q) (Asked.holds (row ∷ rows)) (Some (value.Table columns)) table (sound.each (key.Rows q) (value.Rows (row ∷ rows)) is).others.0)

  pub out_of_bounds : (q : QName) (n : ℤ) (called : Bool) (s : Sequence) → get named (key.SeqVal q) ≡ Some (value.SequenceValue n called) → get named (key.Rel q) ≡ Some (value.Sequence s) → within s.min s.max n ≡ false → ⊥
  out_of_bounds q n called s is sequence wrong =
      let lies : within s.min s.max n ≡ true = passes_at (key.Rel q) (Asked.counts n) (Some (value.Sequence s)) sequence (sound.each (key.SeqVal q) (value.SequenceValue n called) is).others.0 in
      cc

  pub not_a_right : (q : QName) (grants : Grants) (h : Holder) (item : Item) (columns : List Column) → get named (key.Acl (object.Relation q)) ≡ Some (value.Grants grants) → get named (key.Rel q) ≡ Some (value.Table columns) → get grants h ≡ Some item → is_within item.rights table_rights ≡ false → ⊥
  not_a_right q grants h item columns is table has wrong =
      let within_them : is_within item.rights table_rights ≡ true = passes_at (key.Rel q) (Asked.takes grants) (Some (value.Table columns)) table (sound.each (key.Acl (object.Relation q)) (value.Grants grants) is).others.0 h item has in
      cc

  pub no_such_grantee : (o : Object) (grants : Grants) (name : Bytes) (item : Item) → get named (key.Acl o) ≡ Some (value.Grants grants) → get grants (ROLE name) ≡ Some item → get named (key.Role name) ≡ None → ⊥
  no_such_grantee o grants name item is has none =
      passes_at (key.Role name) Asked.there None none (met_holders named o grants (sound.each (key.Acl o) (value.Grants grants) is).others.1.1 name item has).role

  -- no chain goes round, so none ends behind any number of types
  round : (q : QName) (d : Domain) → get named (key.UserType q) ≡ Some (value.Domain d) → d.base ≡ Path q → is_system q.schema ≡ false → (n : ℕ) → EndsWithin n named (Path q) → ⊥
  round q d is base own zero h = cc
  round q d is base own (suc n) (inl system) = cc
  round q d is base own (suc n) (inr behind) =
      let here : base_of (get named (key.UserType q)) ≡ Some (Some (Path q)) = ap base_of is ∙ ap (λ (t : TypeName). Some (Some t)) base in
      round q d is base own n (subst (EndsBehind (EndsWithin n named)) here behind)

  pub no_end : (q : QName) (d : Domain) → get named (key.UserType q) ≡ Some (value.Domain d) → d.base ≡ Path q → is_system q.schema ≡ false → ⊥
  no_end q d is base own =
      let ends = sound.beside.chains q d is in
      round q d is base own ends.0 (subst (EndsWithin ends.0 named) base ends.1)

  pub second_primary : (q : QName) (name other : Bytes) → is_primary_at (get named (key.Con q name)) ≡ true → is_primary_at (get named (key.Con q other)) ≡ true → (name ≡ other → ⊥) → ⊥
  second_primary q name other one two apart = apart (sound.beside.primaries q name other one two)

  pub no_parent_key : (q parent : QName) (name : Bytes) (names : List Bytes) (c : Constraint) → get named (key.Con q name) ≡ Some (value.Constraint c) → c.parent ≡ Some (parent, names) → (HasKey named parent names → ⊥) → ⊥
  no_parent_key q parent name names c is has none = none (sound.beside.parents q name c parent names is has)

  pub nobodys_index : (q table : QName) → get named (key.Rel q) ≡ Some (value.IndexOf table) → get named (key.Con table q.name) ≡ None → get named (key.Index table q.name) ≡ None → ⊥
  nobodys_index q table is no_constraint no_index =
      let same = sound.beside.indexes q table is in
      let one : is_key_at (get named (key.Con table q.name)) ≡ false = ap is_key_at no_constraint in
      let two : not (is_index_at (get named (key.Index table q.name))) ≡ true = ap (λ (o : Option Value). not (is_index_at o)) no_index in
      cc
