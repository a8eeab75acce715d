-- The rows of pg_class, with the rows of tables, stand for the relations but sequences, with their owners and grants.
use Rattle.std.proofs.Common.{◌≡◌, ℕ, Bool, true, false, not, List, [], ◌∷◌, Option, Some, option_and_then, unwrap_or, refl, ap, sym, subst, ◌∙◌, inl, inr, if◌then◌else◌}
use Rattle.std.specs.FinMap.{get}
use Rattle.std.specs.List.{AllByRecursion, flat_map}
use Rattle.cat_rows.specs.declared.catalogue.Catalogue.{Catalogue}
use Rattle.cat_rows.specs.declared.relations.ClassRow.{ClassRow}
use Rattle.cat_model.specs.declared.object.QName.{QName}
use Rattle.cat_model.specs.declared.object.Object.{Object}
use Rattle.cat_model.specs.declared.object.Object.TheVariants as object
use Rattle.cat_model.specs.declared.key.Key.{Key}
use Rattle.cat_model.specs.declared.key.Key.TheVariants as key
use Rattle.cat_model.specs.declared.value.Value.{Value}
use Rattle.cat_model.specs.declared.value.Value.TheVariants as value
use Rattle.cat_model.specs.declared.value.Column.{Column}
use Rattle.cat_model.specs.Conditions as conditions
use Rattle.cat_model.specs.Values.{Bytes, Named, Grants, Row}
use Rattle.cat_names.specs.declared.rights.GrantKind.{GrantKind}
use Rattle.cat_names.specs.declared.rights.GrantKind.TheVariants as on
use Rattle.cat_names.specs.declared.relations.RelationKind.{RelationKind}
use Rattle.cat_names.specs.Grants.{grants_of}
use Rattle.cat_names.specs.Kinds.{relation_kind, is_table, is_view, is_sequence, is_index}
use Rattle.cat_names.specs.Lookups.{role_name}
use Rattle.cat_names.specs.Naming.{Entry, under}
use Rattle.cat_book.specs.Paths.{class_path, class_path_of}
use Rattle.cat_naming.specs.Found.{table_of_index}
use Rattle.cat_naming.specs.Types.{under_path}
use Rattle.cat_naming.specs.Relations.{RowsByOid, columns_of, owned_entries, table_entries, view_entries, index_relation_entries, relation_entries, class_entries}
use Rattle.cat_sound.specs.Asked as asked
use Rattle.cat_sound.specs.Asked.{Asked}
use Rattle.cat_sound.specs.Texts.{Texts}
use Rattle.cat_sound.specs.Sound.{IsSound}
use Rattle.cat_sound.proofs.Changes.{value_met}
use Rattle.cat_sound.proofs.Lists.{IsIn}
use Rattle.cat_sound.proofs.Owners.{table_of}
use Rattle.named_tables.specs.Oids.{AreOids}
use Rattle.named_tables.specs.Standing.{AreRowsOf}
use Rattle.named_tables.proofs.Acls.{same_grants}
use Rattle.named_tables.proofs.Owned.{owner_at, grants_at, owner_met, object_met, takes_them, grants_good, met_by}
use Rattle.named_tables.proofs.Roles.{named_there}
use Rattle.named_objects.specs.Oids.{ObjectOids, AreNumbers}
use Rattle.named_objects.specs.Types.{IsLabel, label_row}
use Rattle.named_objects.specs.Relations.{NamedRelation, IsRelation, IsOwned, IsRowOfKind, IsRelationRow}
use Rattle.named_objects.specs.Kinds.{is_relation, of_relations}
use Rattle.named_objects.proofs.ColumnNames.{columns_found}
use Rattle.named_objects.proofs.Columns.{table_met}
use Rattle.named_objects.proofs.Held.{AreEntriesAt, IsHeldAt, rows_give_at}
use Rattle.named_objects.proofs.IndexTables.{table_of_index_found}
use Rattle.named_objects.proofs.Lookups.{AreLedTo, class_path_found, kind_at, kind_so, row_path}
use Rattle.named_objects.proofs.RelationRows.{HaveOwn}

module _ (texts : Texts) (named : Named) (sound : IsSound texts named) (oids : ObjectOids) (own : AreOids named oids.of) (numbers : AreNumbers named oids.number) (cat : Catalogue) (rows : RowsByOid) (led : AreLedTo named oids.of cat) (have : HaveOwn named oids cat) (labels : AreRowsOf (IsLabel named) (λ l row. row ≡ label_row oids l) cat.pg_enum) (hold : (q : QName) (held : List Row) → get named (key.Rows q) ≡ Some (value.Rows held) → rows (oids.of (key.Rel q)) ≡ held) where
  -- ---- what stands under the other keys of a relation

  record Owning (q : QName) : Type 0 where
    role : Bytes
    grants : Grants
    owner : get named (key.Owner (object.Relation q)) ≡ Some (value.Owner role)
    rights : get named (key.Acl (object.Relation q)) ≡ Some (value.Grants grants)

  abbrev both : (q : QName) → Owning q → List Entry
  both q o = (key.Owner (object.Relation q), value.Owner o.role) ∷ (key.Acl (object.Relation q), value.Grants o.grants) ∷ []

  owning : (kind : GrantKind) (q : QName) (row : ClassRow) → IsOwned named oids.of kind q row.relowner row.relacl → (o : Owning q) × (owned_entries cat kind row q ≡ both q o)
  owning kind q row at =
      let met = owner_met texts named sound (object.Relation q) at.role at.owner_there in
      let owner : role_name cat.pg_authid row.relowner ≡ Some at.role = ap (role_name cat.pg_authid) at.owner ∙ named_there texts named sound oids.of own cat.pg_authid led.roles at.role met in (
        record { role = at.role; grants = at.grants; owner = at.owner_there; rights = at.grants_there },
        ap (λ (o : Option Bytes). under o (λ owner. (key.Owner (object.Relation q), value.Owner owner) ∷ (key.Acl (object.Relation q), value.Grants (grants_of kind owner row.relacl)) ∷ [])) owner
            ∙ ap (λ (g : Grants). (key.Owner (object.Relation q), value.Owner at.role) ∷ (key.Acl (object.Relation q), value.Grants g) ∷ []) (same_grants kind at.role at.grants row.relacl (grants_good texts named sound (object.Relation q) at.grants at.grants_there at.role at.owner_there) at.rights),
      )

  record Held (q : QName) : Type 0 where
    held : List Row
    there : get named (key.Rows q) ≡ Some (value.Rows held)

  rows_at : (q : QName) (v : Value) → get named (key.Rows q) ≡ Some v → (held : List Row) × (v ≡ value.Rows held)
  rows_at q (value.Rows held) is = (held, refl)
  rows_at q v is = elim (sound.each (key.Rows q) v is).own [ ]

  rows_of : (q : QName) (columns : List Column) → get named (key.Rel q) ≡ Some (value.Table columns) → Held q
  rows_of q columns is =
      let found = value_met named (key.Rows q, Asked.there) (sound.each (key.Rel q) (value.Table columns) is).others.1.0 in
      let at = rows_at q found.0 found.1 in
      record { held = at.0; there = found.1 ∙ ap Some at.1 }

  -- ---- what a row gives

  abbrev by_kind : ClassRow → QName → RelationKind → List Entry
  by_kind row path kind =
      if is_table (Some kind) then table_entries cat rows row path
      else if is_view (Some kind) then view_entries cat row path
      else if is_sequence (Some kind) then owned_entries cat on.Sequence row path
      else if is_index (Some kind) then index_relation_entries cat row path
      else []

  -- what a relation gives, with what of it is known
  record Given (q : QName) (v : Value) (es : List Entry) : Type 0 where
    held : AllByRecursion (IsHeldAt named of_relations) es
    itself : conditions.is_sequence v ≡ false → IsIn (key.Rel q, v) es
    content : (columns : List Column) → v ≡ value.Table columns → (w : Value) → get named (key.Rows q) ≡ Some w → IsIn (key.Rows q, w) es
    owner : asked.is_ownable v ≡ true → (w : Value) → get named (key.Owner (object.Relation q)) ≡ Some w → IsIn (key.Owner (object.Relation q), w) es
    acl : asked.is_ownable v ≡ true → (w : Value) → get named (key.Acl (object.Relation q)) ≡ Some w → IsIn (key.Acl (object.Relation q), w) es

  same_at : {w : Value} (k : Key) (v : Value) → get named k ≡ Some v → get named k ≡ Some w → ◌≡◌ {A = Entry} (k, v) (k, w)
  same_at {w = w} k v one other =
      let values : Some v ≡ Some w = sym one ∙ other in
      ap (λ (o : Option Value). (k, unwrap_or o v)) values

  given_of : (q : QName) (v : Value) (row : ClassRow) → get named (key.Rel q) ≡ Some v → row.oid ≡ oids.of (key.Rel q) → IsRowOfKind named oids.of q v row → Given q v (by_kind row q (kind_at v))
  given_of q (value.Table columns) row is oid at =
      let o = owning on.Table q row at.1 in
      let r = rows_of q columns is in
      let same : (key.Rel q, value.Table columns) ∷ (key.Rows q, value.Rows r.held) ∷ both q o.0 ≡ table_entries cat rows row q =
      sym (
      (λ i. (key.Rel q, value.Table (columns_of cat (oid i))) ∷ (key.Rows q, value.Rows (rows (oid i))) ∷ o.1 i)
      ∙ (λ i. (key.Rel q, value.Table (columns_found texts named sound oids own numbers cat led labels have.columns q columns is i)) ∷ (key.Rows q, value.Rows (hold q r.held r.there i)) ∷ both q o.0)) in
      subst (Given q (value.Table columns)) same (
      record {
        held = ((is, refl), ((r.there, refl), ((o.0.owner, refl), ((o.0.rights, refl), tt))));
        itself = λ other. inl refl;
        content = λ cs e w there. inr (inl (same_at (key.Rows q) (value.Rows r.held) r.there there));
        owner = λ e w there. inr (inr (inl (same_at (key.Owner (object.Relation q)) (value.Owner o.0.role) o.0.owner there)));
        acl = λ e w there. inr (inr (inr (inl (same_at (key.Acl (object.Relation q)) (value.Grants o.0.grants) o.0.rights there))));
      })
  given_of q value.View row is oid at =
      let o = owning on.Table q row at.1 in
      subst (Given q value.View) (ap (λ (es : List Entry). (key.Rel q, value.View) ∷ es) (sym o.1)) (
      record {
        held = ((is, refl), ((o.0.owner, refl), ((o.0.rights, refl), tt)));
        itself = λ other. inl refl;
        content = λ cs e w there. cc;
        owner = λ e w there. inr (inl (same_at (key.Owner (object.Relation q)) (value.Owner o.0.role) o.0.owner there));
        acl = λ e w there. inr (inr (inl (same_at (key.Acl (object.Relation q)) (value.Grants o.0.grants) o.0.rights there)));
      })
  given_of q (value.Sequence s) row is oid at =
      let o = owning on.Sequence q row at.1 in
      subst (Given q (value.Sequence s)) (sym o.1) (
      record {
        held = ((o.0.owner, refl), ((o.0.rights, refl), tt));
        itself = λ other. cc;
        content = λ cs e w there. cc;
        owner = λ e w there. inl (same_at (key.Owner (object.Relation q)) (value.Owner o.0.role) o.0.owner there);
        acl = λ e w there. inr (inl (same_at (key.Acl (object.Relation q)) (value.Grants o.0.grants) o.0.rights there));
      })
  given_of q (value.IndexOf table) row is oid at =
      let found = table_met named table [] (table_of texts named sound q table is) in
      let leads : option_and_then (class_path_of cat) (table_of_index cat row.oid) ≡ Some table =
      ap (λ (n : ℕ). option_and_then (class_path_of cat) (table_of_index cat n)) oid
      ∙ ap (option_and_then (class_path_of cat)) (table_of_index_found texts named sound oids own cat led have.constraints have.indexes q table is)
      ∙ class_path_found texts named sound oids.of own cat led table (value.Table found.0) found.1 in
      subst (Given q (value.IndexOf table)) (sym (ap (λ (o : Option QName). under_path o (λ t. (key.Rel q, value.IndexOf t) ∷ [])) leads)) (
      record {
        held = ((is, refl), tt);
        itself = λ other. inl refl;
        content = λ cs e w there. cc;
        owner = λ e w there. cc;
        acl = λ e w there. cc;
      })
  given_of q _ row is oid at = elim at [ ]

  gives : (t : NamedRelation) (row : ClassRow) → IsRelation named t → IsRelationRow named oids.of t row → Given t.path t.relation (class_entries cat rows row)
  gives t row is at =
      let path : class_path cat.pg_namespace row ≡ Some t.path = row_path texts named sound oids.of own cat led t.path t.relation row is at in
      let kind : relation_kind row.relkind ≡ kind_at t.relation = kind_so texts named sound oids.of own cat led t.path t.relation row at.kind in
      subst (Given t.path t.relation) (sym (ap (λ (o : Option QName). under_path o (relation_entries cat rows row)) path ∙ ap (by_kind row t.path) kind)) (given_of t.path t.relation row is at.oid at.kind)

  -- ---- by names

  relations_held : (t : NamedRelation) (row : ClassRow) → IsRelation named t → IsRelationRow named oids.of t row → AllByRecursion (IsHeldAt named of_relations) (class_entries cat rows row)
  relations_held t row is at = (gives t row is at).held

  abbrev Covers : Key → Value → Type 0
  Covers k v = (t : NamedRelation) × IsRelation named t × ((row : ClassRow) → IsRelationRow named oids.of t row → IsIn (k, v) (class_entries cat rows row))

  rows_cover : (q : QName) (v : Value) → get named (key.Rows q) ≡ Some v → Covers (key.Rows q) v
  rows_cover q v is =
      let at = rows_at q v is in
      let met = (sound.each (key.Rows q) (value.Rows at.0) (is ∙ ap Some at.1)).others.0 in
      let found = value_met named (key.Rel q, Asked.holds at.0) met in
      by found.0 found.1 at.0 (met_by named (key.Rel q, Asked.holds at.0) found.0 found.1 met)
    where
      by : (w : Value) → get named (key.Rel q) ≡ Some w → (held : List Row) → asked.Meets (Asked.holds held) w → Covers (key.Rows q) v
      by (value.Table columns) there held met = (record { path = q; relation = value.Table columns }, there, λ row at. (gives (record { path = q; relation = value.Table columns }) row there at).content columns refl v is)
      by w there held met = elim met [ ]

  owner_covers : (o : Object) (v : Value) → get named (key.Owner o) ≡ Some v → is_relation o ≡ true → Covers (key.Owner o) v
  owner_covers (object.Relation q) v is kind =
      let owner = owner_at texts named sound (object.Relation q) v is in
      let met = object_met texts named sound (object.Relation q) owner.0 (is ∙ ap Some owner.1) in
      let found = value_met named (key.Rel q, Asked.ownable) met in
      let ownable = met_by named (key.Rel q, Asked.ownable) found.0 found.1 met in
      (record { path = q; relation = found.0 }, found.1, λ row at. (gives (record { path = q; relation = found.0 }) row found.1 at).owner ownable v is)
  owner_covers o v is kind = cc

  acl_covers : (o : Object) (v : Value) → get named (key.Acl o) ≡ Some v → is_relation o ≡ true → Covers (key.Acl o) v
  acl_covers (object.Relation q) v is kind =
      let grants = grants_at texts named sound (object.Relation q) v is in
      let met = takes_them texts named sound (object.Relation q) grants.0 (is ∙ ap Some grants.1) in
      let found = value_met named (key.Rel q, Asked.takes grants.0) met in
      (record { path = q; relation = found.0 }, found.1, λ row at. (gives (record { path = q; relation = found.0 }) row found.1 at).acl (ownable found.0 found.1 grants.0 (met_by named (key.Rel q, Asked.takes grants.0) found.0 found.1 met)) v is)
    where
      ownable : (w : Value) → get named (key.Rel q) ≡ Some w → (g : Grants) → asked.Meets (Asked.takes g) w → asked.is_ownable w ≡ true
      ownable (value.Table columns) there g met = refl
      ownable value.View there g met = refl
      ownable (value.Sequence s) there g met = refl
      ownable (value.IndexOf table) there g met = elim met [ ]
      ownable w there g met = elim (sound.each (key.Rel q) w there).own [ ]
  acl_covers o v is kind = cc

  relation_covers : (k : Key) (v : Value) → get named k ≡ Some v → of_relations k v ≡ true → Covers k v
  relation_covers (key.Rel q) v is kind = (record { path = q; relation = v }, is, λ row at. (gives (record { path = q; relation = v }) row is at).itself (not_so (conditions.is_sequence v) kind))
    where
      not_so : (b : Bool) → not b ≡ true → b ≡ false
      not_so true e = cc
      not_so false e = refl
  relation_covers (key.Rows q) v is kind = rows_cover q v is
  relation_covers (key.Owner o) v is kind = owner_covers o v is kind
  relation_covers (key.Acl o) v is kind = acl_covers o v is kind
  relation_covers k v is kind = cc

  pub relations_stand : AreEntriesAt named of_relations (flat_map (class_entries cat rows) cat.pg_class)
  relations_stand = rows_give_at (IsRelation named) (IsRelationRow named oids.of) cat.pg_class led.relations named of_relations (class_entries cat rows) relations_held relation_covers
