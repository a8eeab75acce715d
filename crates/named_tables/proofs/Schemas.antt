-- The rows of pg_namespace: they meet the table's conditions, and stand for the schemas.
use Rattle.std.proofs.Common.{◌≡◌, ℕ, pos, true, false, not, ◌||◌, List, [], ◌∷◌, Option, Some, None, refl, ap, sym, subst, ◌∙◌, inl, inr}
use Rattle.std.specs.Ordering.{nat_cmp, eq_by_cmp}
use Rattle.std.specs.FinMap.{get}
use Rattle.std.specs.List.{AllByRecursion, flat_map}
use Rattle.cat_rows.specs.declared.catalogue.Catalogue.{Catalogue}
use Rattle.cat_rows.specs.declared.schemas.NamespaceRow.{NamespaceRow}
use Rattle.cat_model.specs.declared.object.Object.{Object}
use Rattle.cat_model.specs.declared.object.Object.TheVariants as object
use Rattle.cat_model.specs.declared.key.Key.{Key}
use Rattle.cat_model.specs.declared.key.Key.TheVariants as key
use Rattle.cat_model.specs.declared.value.Value.{Value}
use Rattle.cat_model.specs.declared.value.Value.TheVariants as value
use Rattle.cat_model.specs.References.{is_system}
use Rattle.cat_model.specs.Values.{Bytes, Named, Grants}
use Rattle.cat_names.specs.declared.rights.GrantKind.TheVariants as on
use Rattle.cat_names.specs.Grants.{grants_of}
use Rattle.cat_names.specs.Lookups.{role_name, is_role, is_no_oid}
use Rattle.cat_names.specs.Naming.{Entry, under, schema_entries}
use Rattle.cat_names.specs.Rights.{is_bad_acl, is_by_other, other_left_out}
use Rattle.plain_tables.specs.Meets.{Meets}
use Rattle.plain_tables.specs.Rules.{RowName, name_cmp, place_cmp}
use Rattle.plain_tables.specs.Schemas.{schema_rules}
use Rattle.cat_sound.specs.Asked.{Asked}
use Rattle.cat_sound.specs.Texts.{Texts}
use Rattle.cat_sound.specs.Sound.{IsMet, IsSound}
use Rattle.cat_sound.proofs.Changes.{value_met}
use Rattle.cat_sound.proofs.Lists.{IsIn}
use Rattle.named_tables.specs.Oids.{Oids, AreOids}
use Rattle.named_tables.specs.Standing.{AreRowsOf}
use Rattle.named_tables.specs.Cluster.{NamedSchema, IsSchema, IsSchemaRow}
use Rattle.named_tables.specs.Kinds.{is_schema, of_schemas}
use Rattle.named_tables.proofs.Rows.{one_name, one_oid, each_row, distinct_keys, no_keys, no_marks}
use Rattle.named_tables.proofs.Entries.{AreEntries, IsHeld, rows_give}
use Rattle.named_tables.proofs.Acls.{AreGood, same_grants, by_owner, no_bad_acl}
use Rattle.named_tables.proofs.Roles.{AreRoles, named_there, is_role_met, is_name_met}
use Rattle.named_tables.proofs.Owned.{owner_at, owner_of, grants_at, grants_there, owner_met, object_met, takes_them, holder_met, grants_good, met_by}

module _ (texts : Texts) (named : Named) (sound : IsSound texts named) (oids : Oids) (own : AreOids named oids) (cat : Catalogue) (roles : AreRoles named oids cat.pg_authid) (are : AreRowsOf (IsSchema named) (IsSchemaRow oids) cat.pg_namespace) where
  pub same_schema : (t s : NamedSchema) → IsSchema named t → IsSchema named s → t.name ≡ s.name → t ≡ s
  same_schema t s is_t is_s names =
      let values : Some (value.Owner t.owner) ≡ Some (value.Owner s.owner) = sym is_t.owner ∙ ap (λ (n : Bytes). get named (key.Owner (object.Schema n))) names ∙ is_s.owner in
      let owners : t.owner ≡ s.owner = cc in
      let lists : Some (value.Grants t.grants) ≡ Some (value.Grants s.grants) = sym is_t.grants ∙ ap (λ (n : Bytes). get named (key.Acl (object.Schema n))) names ∙ is_s.grants in
      let grants : t.grants ≡ s.grants = cc in
      λ i. record { name = names i; owner = owners i; grants = grants i }

  -- what stands at the key of a schema is one
  pub schema_at : (name : Bytes) (v : Value) → get named (key.Schema name) ≡ Some v → v ≡ value.Schema
  schema_at name value.Schema is = refl
  schema_at name v is = elim (sound.each (key.Schema name) v is).own [ ]

  -- a schema that is there has an owner and grants
  pub record Whole (name : Bytes) : Type 0 where
    pub owner : Bytes
    pub grants : Grants
    pub is : IsSchema named (record { name = name; owner = owner; grants = grants })

  pub whole_schema : (name : Bytes) → get named (key.Schema name) ≡ Some value.Schema → Whole name
  whole_schema name is =
      let others = (sound.each (key.Schema name) value.Schema is).others in
      let owner = owner_of texts named sound (object.Schema name) others.0 in
      let grants = grants_there texts named sound (object.Schema name) others.1.0 in
      record { owner = owner.0; grants = grants.0; is = record { there = is; owner = owner.1; grants = grants.1 } }

  owner_role : (t : NamedSchema) → IsSchema named t → IsMet named (key.Role t.owner, Asked.there)
  owner_role t is = owner_met texts named sound (object.Schema t.name) t.owner is.owner

  good : (t : NamedSchema) → IsSchema named t → AreGood t.owner t.grants
  good t is = grants_good texts named sound (object.Schema t.name) t.grants is.grants t.owner is.owner

  same_key : (t s : NamedSchema) (a b : NamespaceRow) (k l : ℕ) → IsSchema named t → IsSchema named s → IsSchemaRow oids t a → IsSchemaRow oids s b → Some a.oid ≡ Some k → Some b.oid ≡ Some l → eq_by_cmp nat_cmp l k ≡ true → t ≡ s
  same_key t s a b k l is_t is_s at_a at_b is_k is_l ties =
      let equal : oids (key.Schema t.name) ≡ oids (key.Schema s.name) = sym at_a.oid ∙ one_oid a.oid b.oid k l is_k is_l ties ∙ at_b.oid in
      let keys : key.Schema t.name ≡ key.Schema s.name = own.apart (key.Schema t.name) (key.Schema s.name) value.Schema value.Schema is_t.there is_s.there refl refl refl equal in
      same_schema t s is_t is_s cc

  same_name : (t s : NamedSchema) (a b : NamespaceRow) (k l : RowName) → IsSchema named t → IsSchema named s → IsSchemaRow oids t a → IsSchemaRow oids s b → Some (0, 0, pos 0, a.nspname) ≡ Some k → Some (0, 0, pos 0, b.nspname) ≡ Some l → eq_by_cmp name_cmp l k ≡ true → t ≡ s
  same_name t s a b k l is_t is_s at_a at_b is_k is_l ties =
      same_schema t s is_t is_s (sym at_a.name ∙ one_name a.nspname b.nspname k l is_k is_l ties ∙ at_b.name)

  owner_known : (t : NamedSchema) (row : NamespaceRow) → IsSchema named t → IsSchemaRow oids t row → is_role cat.pg_authid row.nspowner ≡ true
  owner_known t row is at = ap (is_role cat.pg_authid) at.owner ∙ is_role_met texts named sound oids own cat.pg_authid roles t.owner (owner_role t is)

  owner_named : (t : NamedSchema) (row : NamespaceRow) → IsSchema named t → IsSchemaRow oids t row → role_name cat.pg_authid row.nspowner ≡ Some t.owner
  owner_named t row is at = ap (role_name cat.pg_authid) at.owner ∙ named_there texts named sound oids own cat.pg_authid roles t.owner (owner_role t is)

  no_bad : (t : NamedSchema) (row : NamespaceRow) → IsSchema named t → IsSchemaRow oids t row → is_bad_acl on.Schema cat.pg_authid row.nspacl ≡ false
  no_bad t row is at =
      no_bad_acl on.Schema cat.pg_authid t.owner
      (is_name_met texts named sound oids own cat.pg_authid roles t.owner (owner_role t is))
      t.grants row.nspacl
      (good t is)
      (met_by named (key.Schema t.name, Asked.takes t.grants) value.Schema is.there (takes_them texts named sound (object.Schema t.name) t.grants is.grants))
      (λ name item has. is_name_met texts named sound oids own cat.pg_authid roles name (holder_met texts named sound (object.Schema t.name) t.grants is.grants name item has))
      at.rights

  not_system : (t : NamedSchema) (row : NamespaceRow) → IsSchema named t → IsSchemaRow oids t row → is_system row.nspname ≡ false
  not_system t row is at = ap is_system at.name ∙ (sound.each (key.Schema t.name) value.Schema is.there).own

  pub schemas_meet : Meets schema_rules cat cat.pg_namespace
  schemas_meet = record {
    oids = distinct_keys (IsSchema named) (IsSchemaRow oids) cat.pg_namespace are nat_cmp (λ r. Some r.oid) same_key;
    names = distinct_keys (IsSchema named) (IsSchemaRow oids) cat.pg_namespace are name_cmp (λ r. Some (0, 0, pos 0, r.nspname)) same_name;
    places = no_keys place_cmp cat.pg_namespace;
    marks = no_marks cat.pg_namespace;
    objects = each_row (IsSchema named) (IsSchemaRow oids) cat.pg_namespace are (λ row. is_no_oid row.oid ≡ false) (λ t row is at. ap is_no_oid at.oid ∙ own.some (key.Schema t.name) value.Schema is.there refl);
    there = each_row (IsSchema named) (IsSchemaRow oids) cat.pg_namespace are (λ row. not (is_role cat.pg_authid row.nspowner) ≡ false) (λ t row is at. ap not (owner_known t row is at));
    texts = each_row (IsSchema named) (IsSchemaRow oids) cat.pg_namespace are (λ row. (is_system row.nspname || is_bad_acl on.Schema cat.pg_authid row.nspacl) ≡ false) (λ t row is at. rw (not_system t row is at, no_bad t row is at) refl);
    inside = each_row (IsSchema named) (IsSchemaRow oids) cat.pg_namespace are (λ row. other_left_out (is_by_other (role_name cat.pg_authid row.nspowner) row.nspacl) ≡ None) (λ t row is at. ap (λ (o : Option Bytes). other_left_out (is_by_other o row.nspacl)) (owner_named t row is at) ∙ ap other_left_out (by_owner on.Schema t.owner t.grants row.nspacl at.rights));
    needed = refl;
  }

  -- ---- by names

  abbrev given : NamedSchema → List Entry
  given t = (key.Schema t.name, value.Schema) ∷ (key.Owner (object.Schema t.name), value.Owner t.owner) ∷ (key.Acl (object.Schema t.name), value.Grants t.grants) ∷ []

  gives : (t : NamedSchema) (row : NamespaceRow) → IsSchema named t → IsSchemaRow oids t row → given t ≡ schema_entries cat.pg_authid row
  gives t row is at =
      sym (
      ap (λ (o : Option Bytes). under o (λ owner. (key.Schema row.nspname, value.Schema) ∷ (key.Owner (object.Schema row.nspname), value.Owner owner) ∷ (key.Acl (object.Schema row.nspname), value.Grants (grants_of on.Schema owner row.nspacl)) ∷ [])) (owner_named t row is at)
      ∙ ap (λ (g : Grants). (key.Schema row.nspname, value.Schema) ∷ (key.Owner (object.Schema row.nspname), value.Owner t.owner) ∷ (key.Acl (object.Schema row.nspname), value.Grants g) ∷ []) (same_grants on.Schema t.owner t.grants row.nspacl (good t is) at.rights)
      ∙ ap (λ (n : Bytes). (key.Schema n, value.Schema) ∷ (key.Owner (object.Schema n), value.Owner t.owner) ∷ (key.Acl (object.Schema n), value.Grants t.grants) ∷ []) at.name)

  schemas_held : (t : NamedSchema) (row : NamespaceRow) → IsSchema named t → IsSchemaRow oids t row → AllByRecursion (IsHeld named of_schemas) (schema_entries cat.pg_authid row)
  schemas_held t row is at = subst (λ (es : List Entry). AllByRecursion (IsHeld named of_schemas) es) (gives t row is at) ((is.there, refl), ((is.owner, refl), ((is.grants, refl), tt)))

  -- what covers a key and its value
  abbrev Covers : Key → Value → Type 0
  Covers k v = (t : NamedSchema) × IsSchema named t × ((row : NamespaceRow) → IsSchemaRow oids t row → IsIn (k, v) (schema_entries cat.pg_authid row))

  covers_by : (k : Key) (v : Value) (t : NamedSchema) → IsSchema named t → IsIn (k, v) (given t) → Covers k v
  covers_by k v t is among = (t, is, λ row at. subst (IsIn (k, v)) (gives t row is at) among)

  owner_covers : (o : Object) (v : Value) → get named (key.Owner o) ≡ Some v → is_schema o ≡ true → Covers (key.Owner o) v
  owner_covers (object.Schema name) v is kind =
      let owner = owner_at texts named sound (object.Schema name) v is in
      let found = value_met named (key.Schema name, Asked.ownable) (object_met texts named sound (object.Schema name) owner.0 (is ∙ ap Some owner.1)) in
      let whole = whole_schema name (found.1 ∙ ap Some (schema_at name found.0 found.1)) in
      let values : Some (value.Owner whole.owner) ≡ Some v = sym whole.is.owner ∙ is in
      let same : value.Owner whole.owner ≡ v = cc in
      covers_by (key.Owner (object.Schema name)) v (record { name = name; owner = whole.owner; grants = whole.grants }) whole.is (inr (inl (λ i. (key.Owner (object.Schema name), same i))))
  owner_covers o v is kind = cc

  acl_covers : (o : Object) (v : Value) → get named (key.Acl o) ≡ Some v → is_schema o ≡ true → Covers (key.Acl o) v
  acl_covers (object.Schema name) v is kind =
      let grants = grants_at texts named sound (object.Schema name) v is in
      let found = value_met named (key.Schema name, Asked.takes grants.0) (takes_them texts named sound (object.Schema name) grants.0 (is ∙ ap Some grants.1)) in
      let whole = whole_schema name (found.1 ∙ ap Some (schema_at name found.0 found.1)) in
      let values : Some (value.Grants whole.grants) ≡ Some v = sym whole.is.grants ∙ is in
      let same : value.Grants whole.grants ≡ v = cc in
      covers_by (key.Acl (object.Schema name)) v (record { name = name; owner = whole.owner; grants = whole.grants }) whole.is (inr (inr (inl (λ i. (key.Acl (object.Schema name), same i)))))
  acl_covers o v is kind = cc

  schema_covers : (k : Key) (v : Value) → get named k ≡ Some v → of_schemas k ≡ true → Covers k v
  schema_covers (key.Schema name) v is kind =
      let same = schema_at name v is in
      let whole = whole_schema name (is ∙ ap Some same) in
      covers_by (key.Schema name) v (record { name = name; owner = whole.owner; grants = whole.grants }) whole.is (inl (λ i. (key.Schema name, sym same i)))
  schema_covers (key.Owner o) v is kind = owner_covers o v is kind
  schema_covers (key.Acl o) v is kind = acl_covers o v is kind
  schema_covers k v is kind = cc

  pub schemas_stand : AreEntries named of_schemas (flat_map (schema_entries cat.pg_authid) cat.pg_namespace)
  schemas_stand = rows_give (IsSchema named) (IsSchemaRow oids) cat.pg_namespace are named of_schemas (schema_entries cat.pg_authid) schemas_held schema_covers
