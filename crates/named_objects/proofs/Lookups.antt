-- What the oids of schemas, types and relations lead to: the rows of these, and so their paths and kinds.
use Rattle.std.proofs.Common.{◌≡◌, ℕ, true, List, Some, None, option_map, option_and_then, refl, ap, sym, subst, ◌∙◌}
use Rattle.std.specs.Ordering.{nat_cmp, is_eq, eq_by_cmp}
use Rattle.std.specs.Cmp.{nat_cmp_total, tied_itself}
use Rattle.std.specs.Cmp.Lexicographic.{nat_list_cmp_total}
use Rattle.std.specs.FinMap.{get, nat_cmp-IsAntisymmetric}
use Rattle.std.specs.List.{AllByRecursion, list_all}
use Rattle.cat_rows.specs.declared.catalogue.Catalogue.{Catalogue}
use Rattle.cat_rows.specs.declared.schemas.NamespaceRow.{NamespaceRow}
use Rattle.cat_rows.specs.declared.relations.ClassRow.{ClassRow}
use Rattle.cat_rows.specs.declared.types.TypeRow.{TypeRow}
use Rattle.cat_model.specs.declared.object.QName.{QName}
use Rattle.cat_model.specs.declared.object.Object.TheVariants as object
use Rattle.cat_model.specs.declared.key.Key.{Key}
use Rattle.cat_model.specs.declared.key.Key.TheVariants as key
use Rattle.cat_model.specs.declared.value.Value.{Value}
use Rattle.cat_model.specs.declared.value.Value.TheVariants as value
use Rattle.cat_model.specs.Values.{Bytes, Named}
use Rattle.cat_names.specs.declared.relations.RelationKind.{RelationKind}
use Rattle.cat_names.specs.declared.relations.RelationKind.TheVariants.{Table, View, Sequence, Index, Other}
use Rattle.cat_names.specs.Kinds.{relation_kind, class_of, kind_of}
use Rattle.cat_names.specs.Lookups.{same_oid, has_oid, schema_oids}
use Rattle.cat_book.specs.Chains.{type_of}
use Rattle.cat_book.specs.Paths.{schema_of, path_in, class_path, class_path_of, type_path, path_of, path_cmp, class_paths, type_paths, has_path}
use Rattle.well_formed.specs.Agreeing.{is_met}
use Rattle.cat_sound.specs.Asked.{Asked}
use Rattle.cat_sound.specs.Asks.{all_there}
use Rattle.cat_sound.specs.Texts.{Texts}
use Rattle.cat_sound.specs.Sound.{IsMet, IsSound}
use Rattle.cat_sound.proofs.Changes.{value_met}
use Rattle.cat_sound.proofs.Lists.{mapped-all, all-weaker, of_tested}
use Rattle.named_tables.specs.Cluster.{NamedSchema, IsSchema, IsSchemaRow}
use Rattle.named_tables.specs.Oids.{Oids, AreOids}
use Rattle.named_tables.specs.Standing.{IsAmong, AreRowsOf}
use Rattle.named_tables.proofs.Ties.{tie}
use Rattle.named_tables.proofs.Rows.{among_in}
use Rattle.named_tables.proofs.Roles.{AreRoles}
use Rattle.named_tables.proofs.Owned.{owner_of, grants_there}
use Rattle.named_tables.proofs.Schemas as schemas
use Rattle.named_objects.specs.Types.{NamedType, IsType, IsRowOfType, IsTypeRow}
use Rattle.named_objects.specs.Relations.{NamedRelation, IsRelation, IsRelationRow, IsRowOfKind}
use Rattle.named_objects.proofs.Found.{find_row, has_given, has_mapped}

pub has_tie : (a b : ℕ) → a ≡ b → same_oid a b ≡ true
has_tie a b same = ap (λ (n : ℕ). same_oid a n) (sym same) ∙ ap is_eq (tied_itself nat_cmp_total a)

path_itself : (q : QName) → eq_by_cmp path_cmp q q ≡ true
path_itself q = rw (tied_itself nat_list_cmp_total q.schema, tied_itself nat_list_cmp_total q.name) refl

-- what a relation is
abbrev pub kind_at : Value → RelationKind
kind_at (value.Table columns) = Table
kind_at value.View = View
kind_at (value.Sequence s) = Sequence
kind_at (value.IndexOf table) = Index
kind_at _ = Other 0

-- tables by which oids are looked up
pub record AreLedTo (named : Named) (oids : Oids) (cat : Catalogue) : Type 0 where
  pub roles : AreRoles named oids cat.pg_authid
  pub schemas : AreRowsOf (IsSchema named) (IsSchemaRow oids) cat.pg_namespace
  pub relations : AreRowsOf (IsRelation named) (IsRelationRow named oids) cat.pg_class
  pub types : AreRowsOf (IsType named) (IsTypeRow oids) cat.pg_type

module _ (texts : Texts) (named : Named) (sound : IsSound texts named) (oids : Oids) (own : AreOids named oids) (cat : Catalogue) (are : AreLedTo named oids cat) where
  -- ---- schemas

  pub record FoundSchema (name : Bytes) : Type 0 where
    pub row : NamespaceRow
    pub among : IsAmong cat.pg_namespace row
    pub oid : row.oid ≡ oids (key.Schema name)
    pub found : schema_of cat.pg_namespace (oids (key.Schema name)) ≡ Some row
    pub named_so : row.nspname ≡ name

  pub schema_found : (name : Bytes) → IsMet named (key.Schema name, Asked.there) → FoundSchema name
  schema_found name met =
      let there = value_met named (key.Schema name, Asked.there) met in
      let is : get named (key.Schema name) ≡ Some value.Schema = there.1 ∙ ap Some (schemas.schema_at texts named sound oids own cat are.roles are.schemas name there.0 there.1) in
      let whole = schemas.whole_schema texts named sound oids own cat are.roles are.schemas name is in
      let thing : NamedSchema = record { name = name; owner = whole.owner; grants = whole.grants } in
      let at = are.schemas.each thing whole.is in
      record {
        row = at.0;
        among = at.1;
        oid = at.2.oid;
        found = find_row (IsSchema named) (IsSchemaRow oids) cat.pg_namespace are.schemas (λ s. same_oid (oids (key.Schema name)) s.oid) thing at.0 at.1 at.2 (has_tie (oids (key.Schema name)) at.0.oid (sym at.2.oid)) (λ s r is_s says ties. only s r thing whole.is is_s says ties);
        named_so = at.2.name;
      }
    where
      only : (s : NamedSchema) (r : NamespaceRow) (t : NamedSchema) → IsSchema named t → IsSchema named s → IsSchemaRow oids s r → same_oid (oids (key.Schema t.name)) r.oid ≡ true → s ≡ t
      only s r t is_t is_s says ties =
          let equal : oids (key.Schema s.name) ≡ oids (key.Schema t.name) = sym (tie nat_cmp-IsAntisymmetric (oids (key.Schema t.name)) r.oid ties ∙ says.oid) in
          let keys : key.Schema s.name ≡ key.Schema t.name = own.apart (key.Schema s.name) (key.Schema t.name) value.Schema value.Schema is_s.there is_t.there refl refl refl equal in
          schemas.same_schema texts named sound oids own cat are.roles are.schemas s t is_s is_t cc

  pub has_schema_oid : (name : Bytes) → IsMet named (key.Schema name, Asked.there) → has_oid (schema_oids cat.pg_namespace) (oids (key.Schema name)) ≡ true
  has_schema_oid name met =
      let at = schema_found name met in
      ap (has_oid (schema_oids cat.pg_namespace)) (sym at.oid) ∙ has_mapped nat_cmp (λ (s : NamespaceRow). s.oid) cat.pg_namespace at.row (has_tie at.row.oid at.row.oid refl) (among_in cat.pg_namespace at.row at.among)

  -- the path of a name in a schema
  pub path_found : (q : QName) → IsMet named (key.Schema q.schema, Asked.there) → path_in cat.pg_namespace (oids (key.Schema q.schema)) q.name ≡ Some q
  path_found q met =
      let at = schema_found q.schema met in
      ap (option_map (λ (s : NamespaceRow). record { schema = s.nspname; name = q.name })) at.found ∙ ap (λ (n : Bytes). Some (record { schema = n; name = q.name })) at.named_so

  -- ---- relations

  pub schema_of_relation : (q : QName) (v : Value) → get named (key.Rel q) ≡ Some v → IsMet named (key.Schema q.schema, Asked.there)
  schema_of_relation q v is = (sound.each (key.Rel q) v is).others.0

  pub record FoundClass (q : QName) (v : Value) : Type 0 where
    pub row : ClassRow
    pub among : IsAmong cat.pg_class row
    pub found : class_of cat.pg_class (oids (key.Rel q)) ≡ Some row
    pub says : IsRelationRow named oids (record { path = q; relation = v }) row

  pub class_found : (q : QName) (v : Value) → get named (key.Rel q) ≡ Some v → FoundClass q v
  class_found q v is =
      let at = are.relations.each (record { path = q; relation = v }) is in
      record {
        row = at.0;
        among = at.1;
        found = find_row (IsRelation named) (IsRelationRow named oids) cat.pg_class are.relations (λ r. same_oid (oids (key.Rel q)) r.oid) (record { path = q; relation = v }) at.0 at.1 at.2 (has_tie (oids (key.Rel q)) at.0.oid (sym at.2.oid)) only;
        says = at.2;
      }
    where
      only : (s : NamedRelation) (r : ClassRow) → IsRelation named s → IsRelationRow named oids s r → same_oid (oids (key.Rel q)) r.oid ≡ true → s ≡ record { path = q; relation = v }
      only s r is_s says ties =
          let equal : oids (key.Rel s.path) ≡ oids (key.Rel q) = sym (tie nat_cmp-IsAntisymmetric (oids (key.Rel q)) r.oid ties ∙ says.oid) in
          let keys : key.Rel s.path ≡ key.Rel q = own.apart (key.Rel s.path) (key.Rel q) s.relation v is_s is refl refl refl equal in
          let paths : s.path ≡ q = cc in
          let values : Some s.relation ≡ Some v = sym is_s ∙ ap (get named) keys ∙ is in
          let value : s.relation ≡ v = cc in
          λ i. record { path = paths i; relation = value i }

  pub row_path : (q : QName) (v : Value) (row : ClassRow) → get named (key.Rel q) ≡ Some v → IsRelationRow named oids (record { path = q; relation = v }) row → class_path cat.pg_namespace row ≡ Some q
  row_path q v row is says = (λ i. path_in cat.pg_namespace (says.schema i) (says.name i)) ∙ path_found q (schema_of_relation q v is)

  -- the path that a relation's oid leads to, and what it is
  pub class_path_found : (q : QName) (v : Value) → get named (key.Rel q) ≡ Some v → class_path_of cat (oids (key.Rel q)) ≡ Some q
  class_path_found q v is =
      let at = class_found q v is in
      ap (option_and_then (class_path cat.pg_namespace)) at.found ∙ row_path q v at.row is at.says

  pub kind_so : (q : QName) (v : Value) (row : ClassRow) → IsRowOfKind named oids q v row → relation_kind row.relkind ≡ kind_at v
  kind_so q (value.Table columns) row at = ap relation_kind at.0
  kind_so q value.View row at = ap relation_kind at.0
  kind_so q (value.Sequence s) row at = ap relation_kind at.0
  kind_so q (value.IndexOf table) row at = ap relation_kind at.0
  kind_so q _ row at = elim at [ ]

  pub kind_found : (q : QName) (v : Value) → get named (key.Rel q) ≡ Some v → kind_of cat.pg_class (oids (key.Rel q)) ≡ Some (kind_at v)
  kind_found q v is =
      let at = class_found q v is in
      ap (option_map (λ (r : ClassRow). relation_kind r.relkind)) at.found ∙ ap Some (kind_so q v at.row at.says.kind)

  pub has_class_path : (q : QName) (v : Value) → get named (key.Rel q) ≡ Some v → has_path (class_paths cat) q ≡ true
  has_class_path q v is =
      let at = class_found q v is in
      has_given path_cmp (class_path cat.pg_namespace) cat.pg_class at.row q (path_itself q) (among_in cat.pg_class at.row at.among) (row_path q v at.row is at.says)

  -- ---- types

  pub record WholeType (q : QName) (v : Value) : Type 0 where
    pub thing : NamedType
    pub is : IsType named thing
    pub path : thing.path ≡ q
    pub type : thing.type ≡ v

  pub whole_type : (q : QName) (v : Value) → get named (key.UserType q) ≡ Some v → WholeType q v
  whole_type q v is =
      let others = (sound.each (key.UserType q) v is).others in
      let owner = owner_of texts named sound (object.Type q) others.1.0 in
      let grants = grants_there texts named sound (object.Type q) others.1.1.0 in
      record {
        thing = record { path = q; type = v; owner = owner.0; grants = grants.0 };
        is = record { there = is; owner = owner.1; grants = grants.1 };
        path = refl;
        type = refl;
      }

  pub same_type : (t s : NamedType) → IsType named t → IsType named s → t.path ≡ s.path → t ≡ s
  same_type t s is_t is_s paths =
      let types : Some t.type ≡ Some s.type = sym is_t.there ∙ ap (λ (q : QName). get named (key.UserType q)) paths ∙ is_s.there in
      let type : t.type ≡ s.type = cc in
      let owners : Some (value.Owner t.owner) ≡ Some (value.Owner s.owner) = sym is_t.owner ∙ ap (λ (q : QName). get named (key.Owner (object.Type q))) paths ∙ is_s.owner in
      let owner : t.owner ≡ s.owner = cc in
      let lists : Some (value.Grants t.grants) ≡ Some (value.Grants s.grants) = sym is_t.grants ∙ ap (λ (q : QName). get named (key.Acl (object.Type q))) paths ∙ is_s.grants in
      let grants : t.grants ≡ s.grants = cc in
      λ i. record { path = paths i; type = type i; owner = owner i; grants = grants i }

  pub type_row_path : (t : NamedType) (row : TypeRow) → IsType named t → IsTypeRow oids t row → type_path cat.pg_namespace row ≡ Some t.path
  type_row_path t row is says = (λ i. path_in cat.pg_namespace (says.schema i) (says.name i)) ∙ path_found t.path (sound.each (key.UserType t.path) t.type is.there).others.0

  pub record FoundType (q : QName) (v : Value) : Type 0 where
    pub row : TypeRow
    pub among : IsAmong cat.pg_type row
    pub found : type_of cat.pg_type (oids (key.UserType q)) ≡ Some row
    pub path : type_path cat.pg_namespace row ≡ Some q
    pub kind : IsRowOfType oids v row
    pub oid : row.oid ≡ oids (key.UserType q)

  pub type_found : (q : QName) (v : Value) → get named (key.UserType q) ≡ Some v → FoundType q v
  type_found q v is =
      let whole = whole_type q v is in
      let at = are.types.each whole.thing whole.is in
      record {
        row = at.0;
        among = at.1;
        found = find_row (IsType named) (IsTypeRow oids) cat.pg_type are.types (λ t. same_oid (oids (key.UserType q)) t.oid) whole.thing at.0 at.1 at.2 (has_tie (oids (key.UserType q)) at.0.oid (ap (λ (p : QName). oids (key.UserType p)) (sym whole.path) ∙ sym at.2.oid)) (λ s r is_s says ties. only whole.thing whole.is whole.path s r is_s says ties);
        path = type_row_path whole.thing at.0 whole.is at.2 ∙ ap Some whole.path;
        kind = subst (λ (x : Value). IsRowOfType oids x at.0) whole.type at.2.kind;
        oid = at.2.oid ∙ ap (λ (p : QName). oids (key.UserType p)) whole.path;
      }
    where
      only : (t : NamedType) → IsType named t → t.path ≡ q → (s : NamedType) (r : TypeRow) → IsType named s → IsTypeRow oids s r → same_oid (oids (key.UserType q)) r.oid ≡ true → s ≡ t
      only t is_t path s r is_s says ties =
          let equal : oids (key.UserType s.path) ≡ oids (key.UserType q) = sym (tie nat_cmp-IsAntisymmetric (oids (key.UserType q)) r.oid ties ∙ says.oid) in
          let keys : key.UserType s.path ≡ key.UserType q = own.apart (key.UserType s.path) (key.UserType q) s.type v is_s.there is refl refl refl equal in
          let paths : s.path ≡ q = cc in
          same_type s t is_s is_t (paths ∙ sym path)

  pub type_path_found : (q : QName) (v : Value) → get named (key.UserType q) ≡ Some v → path_of cat (oids (key.UserType q)) ≡ Some q
  type_path_found q v is =
      let at = type_found q v is in
      ap (option_and_then (type_path cat.pg_namespace)) at.found ∙ at.path

  pub has_type_path : (q : QName) (v : Value) → get named (key.UserType q) ≡ Some v → has_path (type_paths cat) q ≡ true
  has_type_path q v is =
      let at = type_found q v is in
      has_given path_cmp (type_path cat.pg_namespace) cat.pg_type at.row q (path_itself q) (among_in cat.pg_type at.row at.among) at.path

  -- ---- what texts refer to

  reference_met : (k : Key) → IsMet named (k, Asked.there) → is_met cat None k ≡ true
  reference_met (key.Rel q) met = let there = value_met named (key.Rel q, Asked.there) met in has_class_path q there.0 there.1
  reference_met (key.UserType q) met = let there = value_met named (key.UserType q, Asked.there) met in rw (has_type_path q there.0 there.1) refl
  reference_met k met = refl

  -- references that are there are met
  pub references_met : (keys : List Key) → AllByRecursion (IsMet named) (all_there keys) → list_all (is_met cat None) keys ≡ true
  references_met keys all =
      of_tested (is_met cat None) keys
      (all-weaker (λ (k : Key). IsMet named (k, Asked.there)) (λ (k : Key). is_met cat None k ≡ true) reference_met keys
      (mapped-all (IsMet named) (λ (k : Key). (k, Asked.there)) keys all))
