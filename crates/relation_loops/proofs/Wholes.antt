-- Types and relations: the entries that say them, and their rows.
use Rattle.std.proofs.Common.{◌≡◌, Bool, true, false, cond, not, List, Option, Some, None, option_map, filter_map, refl, sym, ap, subst, ◌∙◌}
use Rattle.std.proofs.lemmas.Option.{none-some}
use Rattle.std.specs.FinMap.{get, entries}
use Rattle.cat_rows.specs.declared.types.TypeRow.{TypeRow}
use Rattle.cat_rows.specs.declared.relations.ClassRow.{ClassRow}
use Rattle.cat_model.specs.declared.object.QName.{QName}
use Rattle.cat_model.specs.declared.object.Object.{Object}
use Rattle.cat_model.specs.declared.object.Object.TheVariants as object
use Rattle.cat_model.specs.declared.key.Key.TheVariants as key
use Rattle.cat_model.specs.declared.value.Value.{Value}
use Rattle.cat_model.specs.declared.value.Value.TheVariants as value
use Rattle.cat_model.specs.declared.value.Column.{Column}
use Rattle.cat_model.specs.Trees.{is_unique}
use Rattle.cat_model.specs.Values.{Bytes, Named, Grants}
use Rattle.cat_names.specs.Naming.{Entry}
use Rattle.cat_sound.specs.Asked.{Asked, Passes}
use Rattle.cat_sound.specs.Beside.{is_key_at, is_index_at}
use Rattle.cat_sound.specs.Sound.{IsMet, IsSound}
use Rattle.cat_sound.specs.Texts.{Texts}
use Rattle.cat_sound.proofs.Changes.{value_met}
use Rattle.named_tables.specs.Oids.{Oids, AreOids}
use Rattle.named_tables.specs.Standing.{AreRowsOf}
use Rattle.object_rows.specs.Types.{NamedType, IsType, IsTypeRow}
use Rattle.object_rows.specs.Relations.{NamedRelation, IsRelation, IsRelationRow}
use Rattle.map_export.specs.Making.{AreSaid}
use Rattle.map_export.specs.Things.{both, owner_in, owner_of, grants_in, grants_on}
use Rattle.map_export.proofs.Named.{same_thing, stand_for}
use Rattle.relation_loops.specs.Wholes.{is_type, type_with, type_at, type_in, is_owned, relation_of, whole_relation, index_relation, relation_at, relation_in}

-- what has columns is a table
table_there : (o : Option Value) (names : List Bytes) → Passes o (Asked.has_columns names) → (columns : List Column) × (o ≡ Some (value.Table columns))
table_there (Some (value.Table columns)) names met = (columns, refl)
table_there (Some v) names met = elim met [ ]
table_there None names met = elim met [ ]

module _ (texts : Texts) (named : Named) (sound : IsSound texts named) where
  -- ---- owners and grants

  owner_there : (o : Object) → IsMet named (key.Owner o, Asked.there) → (owner : Bytes) × (get named (key.Owner o) ≡ Some (value.Owner owner))
  owner_there o met = let found = value_met named (key.Owner o, Asked.there) met in by found.0 found.1
    where
      by : (v : Value) → get named (key.Owner o) ≡ Some v → (owner : Bytes) × (get named (key.Owner o) ≡ Some (value.Owner owner))
      by (value.Owner owner) is = (owner, is)
      by v is = elim (sound.each (key.Owner o) v is).own [ ]

  grants_there : (o : Object) → IsMet named (key.Acl o, Asked.there) → (grants : Grants) × (get named (key.Acl o) ≡ Some (value.Grants grants))
  grants_there o met = let found = value_met named (key.Acl o, Asked.there) met in by found.0 found.1
    where
      by : (v : Value) → get named (key.Acl o) ≡ Some v → (grants : Grants) × (get named (key.Acl o) ≡ Some (value.Grants grants))
      by (value.Grants grants) is = (grants, is)
      by v is = elim (sound.each (key.Acl o) v is).own [ ]

  -- ---- types

  typed : (q : QName) (v : Value) (t : NamedType) → get named (key.UserType q) ≡ Some v → (o p : Option Value) → get named (key.Owner (object.Type q)) ≡ o → get named (key.Acl (object.Type q)) ≡ p → both (type_with q v) (owner_in o) (grants_in p) ≡ Some t → IsType named t × (key.UserType t.path ≡ key.UserType q)
  typed q v t there (Some (value.Owner owner)) (Some (value.Grants grants)) at on says =
      subst (λ (s : NamedType). IsType named s × (key.UserType s.path ≡ key.UserType q)) (same_thing (type_with q v owner grants) t says) (record { there = there; owner = at; grants = on }, refl)
  typed q v t there (Some (value.Owner owner)) p at on says = absurd (none-some t says)
  typed q v t there o p at on says = absurd (none-some t says)

  is_type_there : (e : Entry) (t : NamedType) → get named e.0 ≡ Some e.1 → type_in named e ≡ Some t → IsType named t × (key.UserType t.path ≡ e.0)
  is_type_there (key.UserType q, v) t there says = by (is_type v) says
    where
      by : (b : Bool) → cond b (both (type_with q v) (owner_of named (object.Type q)) (grants_on named (object.Type q))) None ≡ Some t → IsType named t × (key.UserType t.path ≡ key.UserType q)
      by true is = typed q v t there (get named (key.Owner (object.Type q))) (get named (key.Acl (object.Type q))) refl refl is
      by false is = absurd (none-some t is)
  is_type_there e t there says = absurd (none-some t says)

  types_only : (q : QName) (v : Value) → get named (key.UserType q) ≡ Some v → is_type v ≡ true
  types_only q (value.Enum labels) is = refl
  types_only q (value.Domain d) is = refl
  types_only q v is = elim (sound.each (key.UserType q) v is).own [ ]

  type_found : (t : NamedType) → IsType named t → (v : Value) × (get named (key.UserType t.path) ≡ Some v) × (type_in named (key.UserType t.path, v) ≡ Some t)
  type_found t is = (
    t.type,
    is.there,
    ap (λ (b : Bool). cond b (both (type_with t.path t.type) (owner_of named (object.Type t.path)) (grants_on named (object.Type t.path))) None) (types_only t.path t.type is.there)
        ∙ ap (λ (o : Option Value). both (type_with t.path t.type) (owner_in o) (grants_on named (object.Type t.path))) is.owner
        ∙ ap (λ (o : Option Value). both (type_with t.path t.type) (Some t.owner) (grants_in o)) is.grants,
  )

  -- ---- relations

  abbrev IsThere : QName → NamedRelation → Type 0
  IsThere q r = IsRelation named r × (key.Rel r.path ≡ key.Rel q)

  whole : (q : QName) (v : Value) (r : NamedRelation) → get named (key.Rel q) ≡ Some v → (b : Bool) (o : Option Bytes) (p : Option Grants) → cond b (both (λ (owner : Bytes) (grants : Grants). relation_of q v) o p) None ≡ Some r → IsThere q r
  whole q v r there true (Some owner) (Some grants) says = subst (IsThere q) (same_thing (relation_of q v) r says) (there, refl)
  whole q v r there true (Some owner) None says = absurd (none-some r says)
  whole q v r there true None p says = absurd (none-some r says)
  whole q v r there false o p says = absurd (none-some r says)

  index : (q table : QName) (r : NamedRelation) → get named (key.Rel q) ≡ Some (value.IndexOf table) → (o : Option Bytes) → option_map (λ (owner : Bytes). relation_of q (value.IndexOf table)) o ≡ Some r → IsThere q r
  index q table r there (Some owner) says = subst (IsThere q) (same_thing (relation_of q (value.IndexOf table)) r says) (there, refl)
  index q table r there None says = absurd (none-some r says)

  at : (q : QName) (v : Value) (r : NamedRelation) → get named (key.Rel q) ≡ Some v → relation_at named q v ≡ Some r → IsThere q r
  at q (value.IndexOf table) r there says = index q table r there (owner_of named (object.Relation table)) says
  at q v r there says = whole q v r there (is_owned v) (owner_of named (object.Relation q)) (grants_on named (object.Relation q)) says

  is_relation_there : (e : Entry) (r : NamedRelation) → get named e.0 ≡ Some e.1 → relation_in named e ≡ Some r → IsRelation named r × (key.Rel r.path ≡ e.0)
  is_relation_there (key.Rel q, v) r there says = at q v r there says
  is_relation_there e r there says = absurd (none-some r says)

  -- the table of an index is there, and so is its owner
  owned_table : (q : QName) (names : List Bytes) → IsMet named (key.Rel q, Asked.has_columns names) → (owner : Bytes) × (get named (key.Owner (object.Relation q)) ≡ Some (value.Owner owner))
  owned_table q names met =
      let table = table_there (get named (key.Rel q)) names met in
      owner_there (object.Relation q) (sound.each (key.Rel q) (value.Table table.0) table.1).others.1.1.0

  table_owner : (q table : QName) → get named (key.Rel q) ≡ Some (value.IndexOf table) → (owner : Bytes) × (get named (key.Owner (object.Relation table)) ≡ Some (value.Owner owner))
  table_owner q table is = by (get named (key.Con table q.name)) refl (get named (key.Index table q.name)) refl (sound.beside.indexes q table is)
    where
      by : (o : Option Value) → get named (key.Con table q.name) ≡ o → (p : Option Value) → get named (key.Index table q.name) ≡ p → is_key_at o ≡ not (is_index_at p) → (owner : Bytes) × (get named (key.Owner (object.Relation table)) ≡ Some (value.Owner owner))
      by o at (Some (value.Index i)) there same = owned_table table _ (sound.each (key.Index table q.name) (value.Index i) there).others.0
      by (Some (value.Constraint c)) at None there same = owned_table table c.columns (sound.each (key.Con table q.name) (value.Constraint c) at).others.0
      by (Some v) at None there same = elim (sound.each (key.Con table q.name) v at).own [ ]
      by None at None there same = cc
      by o at (Some v) there same = elim (sound.each (key.Index table q.name) v there).own [ ]

  both_there : (q : QName) (v : Value) → IsMet named (key.Owner (object.Relation q), Asked.there) → IsMet named (key.Acl (object.Relation q), Asked.there) → both (λ (owner : Bytes) (grants : Grants). relation_of q v) (owner_of named (object.Relation q)) (grants_on named (object.Relation q)) ≡ Some (relation_of q v)
  both_there q v one two =
      let owner = owner_there (object.Relation q) one in
      let grants = grants_there (object.Relation q) two in
      ap (λ (o : Option Value). both (λ (owner : Bytes) (grants : Grants). relation_of q v) (owner_in o) (grants_on named (object.Relation q))) owner.1
      ∙ ap (λ (o : Option Value). both (λ (owner : Bytes) (grants : Grants). relation_of q v) (Some owner.0) (grants_in o)) grants.1

  says_it : (q : QName) (v : Value) → get named (key.Rel q) ≡ Some v → relation_at named q v ≡ Some (relation_of q v)
  says_it q (value.Table columns) is = let asked = (sound.each (key.Rel q) (value.Table columns) is).others in both_there q (value.Table columns) asked.1.1.0 asked.1.1.1.0
  says_it q value.View is = let asked = (sound.each (key.Rel q) value.View is).others in both_there q value.View asked.1.1.0 asked.1.1.1.0
  says_it q (value.Sequence s) is = let asked = (sound.each (key.Rel q) (value.Sequence s) is).others in both_there q (value.Sequence s) asked.1.1.0 asked.1.1.1.0
  says_it q (value.IndexOf table) is =
      ap (λ (o : Option Value). option_map (λ (owner : Bytes). relation_of q (value.IndexOf table)) (owner_in o)) (table_owner q table is).1
  says_it q v is = elim (sound.each (key.Rel q) v is).own [ ]

  -- ---- their rows

  module _ (oids : Oids) (own : AreOids named oids) where
    pub types_stand : (rows : List TypeRow) → AreSaid (IsTypeRow oids) (filter_map (type_in named) (entries named)) rows → AreRowsOf (IsType named) (IsTypeRow oids) rows
    types_stand rows said =
        stand_for named (IsType named) (IsTypeRow oids) (λ t. key.UserType t.path) (λ row. row.oid) (λ t. oids (key.UserType t.path))
        (λ t row is. is.oid)
        (λ t s one two same. own.apart (key.UserType t.path) (key.UserType s.path) t.type s.type one.there two.there refl refl refl same)
        (type_in named) type_found is_type_there rows said

    pub relations_stand : (rows : List ClassRow) → AreSaid (IsRelationRow named oids) (filter_map (relation_in named) (entries named)) rows → AreRowsOf (IsRelation named) (IsRelationRow named oids) rows
    relations_stand rows said =
        stand_for named (IsRelation named) (IsRelationRow named oids) (λ r. key.Rel r.path) (λ row. row.oid) (λ r. oids (key.Rel r.path))
        (λ r row is. is.oid)
        (λ r s one two same. own.apart (key.Rel r.path) (key.Rel s.path) r.relation s.relation one two refl refl refl same)
        (relation_in named) (λ r there. (r.relation, there, says_it r.path r.relation there)) is_relation_there rows said
