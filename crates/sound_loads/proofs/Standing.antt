-- What stands at a key of a loaded catalogue, and which keys are there.
use Rattle.std.proofs.Common.{◌≡◌, ℕ, true, List, [], ◌∷◌, ◌++◌, Option, Some, refl, sym, subst, ◌∙◌, inl, inr}
use Rattle.std.specs.FinMap.{get, get-from_entries}
use Rattle.std.specs.List.{flat_map}
use Rattle.cat_rows.specs.declared.catalogue.Catalogue.{Catalogue}
use Rattle.cat_rows.specs.declared.roles.AuthidRow.{AuthidRow}
use Rattle.cat_rows.specs.declared.roles.DatabaseRow.{DatabaseRow}
use Rattle.cat_rows.specs.declared.schemas.NamespaceRow.{NamespaceRow}
use Rattle.cat_rows.specs.declared.types.TypeRow.{TypeRow}
use Rattle.cat_rows.specs.declared.relations.ClassRow.{ClassRow}
use Rattle.cat_model.specs.declared.constraint.Encoding.TheVariants as encoding
use Rattle.cat_model.specs.declared.key.Key.{Key}
use Rattle.cat_model.specs.declared.key.Key.TheVariants as key
use Rattle.cat_model.specs.declared.object.Object.TheVariants as object
use Rattle.cat_model.specs.declared.object.QName.{QName}
use Rattle.cat_model.specs.declared.value.Value.{Value}
use Rattle.cat_model.specs.declared.value.Value.TheVariants as value
use Rattle.cat_model.specs.KeyLaws.{key_cmp_total, key_cmp-IsAntisymmetric}
use Rattle.cat_model.specs.Values.{Bytes}
use Rattle.cat_names.specs.declared.rights.GrantKind.TheVariants as on
use Rattle.cat_names.specs.Grants.{grants_of}
use Rattle.cat_names.specs.Lookups.{role_name, is_role_name}
use Rattle.cat_names.specs.Naming.{Entry, role_entries, member_entries, database_entries, schema_entries, cluster_entries}
use Rattle.cat_book.specs.Paths.{type_path, class_path}
use Rattle.cat_naming.specs.Types.{type_entries, type_value, type_rights}
use Rattle.cat_naming.specs.Relations.{RowsByOid, class_entries, default_entries, sequence_entries, body_entries, relation_entries}
use Rattle.cat_naming.specs.Constraints.{constraint_entries, index_entries}
use Rattle.cat_naming.specs.Comments.{comment_entries}
use Rattle.cat_naming.specs.Entries.{object_entries, entries_of, catalogue_named}
use Rattle.cat_sound.specs.Asked.{Asked, Meets, Passes}
use Rattle.cat_sound.specs.Sound.{IsMet}
use Rattle.cat_sound.proofs.Lists.{IsIn, of_member}
use Rattle.cat_sound.proofs.Maps.{find-in}
use Rattle.sound_rows.specs.Rows.{IsAmong}
use Rattle.sound_rows.proofs.Among.{in_front, in_back, in_flat}
use Rattle.sound_rows.proofs.Roles.{named_role, role_of_name}
use Rattle.sound_loads.specs.Origins.{Origin}
use Rattle.sound_loads.proofs.Entries.{in_found, under_in, path_in, value_in}
use Rattle.sound_loads.proofs.Origins.{entries_stand}

module _ (cat : Catalogue) (rows : RowsByOid) where
  -- ---- by the whole

  pub origin : (k : Key) (v : Value) → get (catalogue_named cat rows) k ≡ Some v → Origin cat rows k v
  origin k v is =
      of_member (λ (e : Entry). Origin cat rows e.0 e.1) (entries_of cat rows) (entries_stand cat rows) (k, v)
      (find-in key_cmp_total key_cmp-IsAntisymmetric (entries_of cat rows) k v (sym (get-from_entries key_cmp_total (entries_of cat rows) k) ∙ is))

  -- a key with a value, which stands for a row
  pub record IsThere (k : Key) : Type 0 where
    pub value : Value
    pub is : get (catalogue_named cat rows) k ≡ Some value
    pub from : Origin cat rows k value

  pub there : (k : Key) (v : Value) → IsIn (k, v) (entries_of cat rows) → IsThere k
  there k v among =
      let found = in_found key_cmp_total (entries_of cat rows) k v among in
      let is = get-from_entries key_cmp_total (entries_of cat rows) k ∙ found.1 in
      record { value = found.0; is = is; from = origin k found.0 is }

  pub met : (k : Key) (a : Asked) → IsThere k → ((v : Value) → Origin cat rows k v → Meets a v) → IsMet (catalogue_named cat rows) (k, a)
  met k a at fits = subst (λ (o : Option Value). Passes o a) (sym at.is) (fits at.value at.from)

  pub is_met : (k : Key) → IsThere k → IsMet (catalogue_named cat rows) (k, Asked.there)
  is_met k at = met k Asked.there at (λ v from. tt)

  -- ---- by tables

  in_cluster : (e : Entry) → IsIn e (cluster_entries cat) → IsIn e (entries_of cat rows)
  in_cluster e among = in_front e (cluster_entries cat) (object_entries cat rows) among

  in_objects : (e : Entry) → IsIn e (object_entries cat rows) → IsIn e (entries_of cat rows)
  in_objects e among = in_back e (cluster_entries cat) (object_entries cat rows) among

  -- what each table gives
  abbrev all_roles : List Entry
  all_roles = flat_map role_entries cat.pg_authid

  abbrev all_members : List Entry
  all_members = flat_map (member_entries cat.pg_authid) cat.pg_auth_members

  abbrev all_databases : List Entry
  all_databases = flat_map (database_entries cat.pg_authid) cat.pg_database

  abbrev all_schemas : List Entry
  all_schemas = flat_map (schema_entries cat.pg_authid) cat.pg_namespace

  abbrev all_types : List Entry
  all_types = flat_map (type_entries cat) cat.pg_type

  abbrev all_classes : List Entry
  all_classes = flat_map (class_entries cat rows) cat.pg_class

  abbrev all_defaults : List Entry
  all_defaults = flat_map (default_entries cat) cat.pg_attrdef

  abbrev all_constraints : List Entry
  all_constraints = flat_map (constraint_entries cat) cat.pg_constraint

  abbrev all_indexes : List Entry
  all_indexes = flat_map index_entries cat.pg_index

  abbrev all_sequences : List Entry
  all_sequences = flat_map (sequence_entries cat) cat.pg_sequence

  abbrev all_bodies : List Entry
  all_bodies = flat_map (body_entries cat) cat.pg_rewrite

  abbrev all_comments : List Entry
  all_comments = flat_map (comment_entries cat) cat.pg_description

  pub of_roles : (e : Entry) → IsIn e all_roles → IsIn e (entries_of cat rows)
  of_roles e among = in_cluster e (in_front e (all_roles ++ all_members ++ all_databases) all_schemas (in_front e (all_roles ++ all_members) all_databases (in_front e (all_roles) all_members among)))

  pub of_databases : (e : Entry) → IsIn e all_databases → IsIn e (entries_of cat rows)
  of_databases e among = in_cluster e (in_front e (all_roles ++ all_members ++ all_databases) all_schemas (in_back e (all_roles ++ all_members) all_databases among))

  pub of_schemas : (e : Entry) → IsIn e all_schemas → IsIn e (entries_of cat rows)
  of_schemas e among = in_cluster e (in_back e (all_roles ++ all_members ++ all_databases) all_schemas among)

  pub of_types : (e : Entry) → IsIn e all_types → IsIn e (entries_of cat rows)
  of_types e among = in_objects e (in_front e (all_types ++ all_classes ++ all_defaults ++ all_constraints ++ all_indexes ++ all_sequences ++ all_bodies) all_comments (in_front e (all_types ++ all_classes ++ all_defaults ++ all_constraints ++ all_indexes ++ all_sequences) all_bodies (in_front e (all_types ++ all_classes ++ all_defaults ++ all_constraints ++ all_indexes) all_sequences (in_front e (all_types ++ all_classes ++ all_defaults ++ all_constraints) all_indexes (in_front e (all_types ++ all_classes ++ all_defaults) all_constraints (in_front e (all_types ++ all_classes) all_defaults (in_front e (all_types) all_classes among)))))))

  pub of_classes : (e : Entry) → IsIn e all_classes → IsIn e (entries_of cat rows)
  of_classes e among = in_objects e (in_front e (all_types ++ all_classes ++ all_defaults ++ all_constraints ++ all_indexes ++ all_sequences ++ all_bodies) all_comments (in_front e (all_types ++ all_classes ++ all_defaults ++ all_constraints ++ all_indexes ++ all_sequences) all_bodies (in_front e (all_types ++ all_classes ++ all_defaults ++ all_constraints ++ all_indexes) all_sequences (in_front e (all_types ++ all_classes ++ all_defaults ++ all_constraints) all_indexes (in_front e (all_types ++ all_classes ++ all_defaults) all_constraints (in_front e (all_types ++ all_classes) all_defaults (in_back e (all_types) all_classes among)))))))

  pub of_constraints : (e : Entry) → IsIn e all_constraints → IsIn e (entries_of cat rows)
  of_constraints e among = in_objects e (in_front e (all_types ++ all_classes ++ all_defaults ++ all_constraints ++ all_indexes ++ all_sequences ++ all_bodies) all_comments (in_front e (all_types ++ all_classes ++ all_defaults ++ all_constraints ++ all_indexes ++ all_sequences) all_bodies (in_front e (all_types ++ all_classes ++ all_defaults ++ all_constraints ++ all_indexes) all_sequences (in_front e (all_types ++ all_classes ++ all_defaults ++ all_constraints) all_indexes (in_back e (all_types ++ all_classes ++ all_defaults) all_constraints among)))))

  pub of_indexes : (e : Entry) → IsIn e all_indexes → IsIn e (entries_of cat rows)
  of_indexes e among = in_objects e (in_front e (all_types ++ all_classes ++ all_defaults ++ all_constraints ++ all_indexes ++ all_sequences ++ all_bodies) all_comments (in_front e (all_types ++ all_classes ++ all_defaults ++ all_constraints ++ all_indexes ++ all_sequences) all_bodies (in_front e (all_types ++ all_classes ++ all_defaults ++ all_constraints ++ all_indexes) all_sequences (in_back e (all_types ++ all_classes ++ all_defaults ++ all_constraints) all_indexes among))))

  pub of_sequences : (e : Entry) → IsIn e all_sequences → IsIn e (entries_of cat rows)
  of_sequences e among = in_objects e (in_front e (all_types ++ all_classes ++ all_defaults ++ all_constraints ++ all_indexes ++ all_sequences ++ all_bodies) all_comments (in_front e (all_types ++ all_classes ++ all_defaults ++ all_constraints ++ all_indexes ++ all_sequences) all_bodies (in_back e (all_types ++ all_classes ++ all_defaults ++ all_constraints ++ all_indexes) all_sequences among)))

  pub of_bodies : (e : Entry) → IsIn e all_bodies → IsIn e (entries_of cat rows)
  of_bodies e among = in_objects e (in_front e (all_types ++ all_classes ++ all_defaults ++ all_constraints ++ all_indexes ++ all_sequences ++ all_bodies) all_comments (in_back e (all_types ++ all_classes ++ all_defaults ++ all_constraints ++ all_indexes ++ all_sequences) all_bodies among))

  -- ---- by rows

  role_there : (r : AuthidRow) → IsAmong r cat.pg_authid → IsThere (key.Role r.rolname)
  role_there r among = there (key.Role r.rolname) _ (of_roles _ (in_flat role_entries cat.pg_authid r _ among (inl refl)))

  -- a role that an oid leads to, and one of this name
  pub role_of_oid : (oid : ℕ) (name : Bytes) → role_name cat.pg_authid oid ≡ Some name → IsThere (key.Role name)
  role_of_oid oid name e = let r = named_role cat.pg_authid oid name e in subst (λ (n : Bytes). IsThere (key.Role n)) r.2 (role_there r.0 r.1)

  pub role_named : (name : Bytes) → is_role_name cat.pg_authid name ≡ true → IsThere (key.Role name)
  role_named name e = let r = role_of_name cat.pg_authid name e in subst (λ (n : Bytes). IsThere (key.Role n)) r.2 (role_there r.0 r.1)

  module _ (d : DatabaseRow) (among : IsAmong d cat.pg_database) (owner : Bytes) (owned : role_name cat.pg_authid d.datdba ≡ Some owner) where
    of_database : (e : Entry) → IsIn e ((key.Database d.datname, value.Database encoding.Utf8) ∷ (key.Owner (object.Database d.datname), value.Owner owner) ∷ []) → IsIn e (entries_of cat rows)
    of_database e here = of_databases e (in_flat (database_entries cat.pg_authid) cat.pg_database d e among (under_in e (role_name cat.pg_authid d.datdba) _ owner owned here))

    pub database_there : IsThere (key.Database d.datname)
    database_there = there (key.Database d.datname) _ (of_database _ (inl refl))

    pub database_owner_there : IsThere (key.Owner (object.Database d.datname))
    database_owner_there = there (key.Owner (object.Database d.datname)) _ (of_database _ (inr (inl refl)))

  module _ (s : NamespaceRow) (among : IsAmong s cat.pg_namespace) (owner : Bytes) (owned : role_name cat.pg_authid s.nspowner ≡ Some owner) where
    of_schema : (e : Entry) → IsIn e ((key.Schema s.nspname, value.Schema) ∷ (key.Owner (object.Schema s.nspname), value.Owner owner) ∷ (key.Acl (object.Schema s.nspname), value.Grants (grants_of on.Schema owner s.nspacl)) ∷ []) → IsIn e (entries_of cat rows)
    of_schema e here = of_schemas e (in_flat (schema_entries cat.pg_authid) cat.pg_namespace s e among (under_in e (role_name cat.pg_authid s.nspowner) _ owner owned here))

    pub schema_there : IsThere (key.Schema s.nspname)
    schema_there = there (key.Schema s.nspname) _ (of_schema _ (inl refl))

    pub schema_owner_there : IsThere (key.Owner (object.Schema s.nspname))
    schema_owner_there = there (key.Owner (object.Schema s.nspname)) _ (of_schema _ (inr (inl refl)))

    pub schema_grants_there : IsThere (key.Acl (object.Schema s.nspname))
    schema_grants_there = there (key.Acl (object.Schema s.nspname)) _ (of_schema _ (inr (inr (inl refl))))

  module _ (t : TypeRow) (among : IsAmong t cat.pg_type) (q : QName) (path : type_path cat.pg_namespace t ≡ Some q) (owner : Bytes) (owned : role_name cat.pg_authid t.typowner ≡ Some owner) (v : Value) (of : type_value cat t ≡ Some v) where
    of_type : (e : Entry) → IsIn e ((key.UserType q, v) ∷ type_rights t q owner) → IsIn e (entries_of cat rows)
    of_type e here =
        of_types e (in_flat (type_entries cat) cat.pg_type t e among
        (path_in e (type_path cat.pg_namespace t) _ q path (under_in e (role_name cat.pg_authid t.typowner) _ owner owned (value_in e (type_value cat t) _ v of here))))

    pub type_there : IsThere (key.UserType q)
    type_there = there (key.UserType q) _ (of_type _ (inl refl))

    pub type_owner_there : IsThere (key.Owner (object.Type q))
    type_owner_there = there (key.Owner (object.Type q)) _ (of_type _ (inr (inl refl)))

    pub type_grants_there : IsThere (key.Acl (object.Type q))
    type_grants_there = there (key.Acl (object.Type q)) _ (of_type _ (inr (inr (inl refl))))

  -- an entry of a relation's row
  pub of_class : (c : ClassRow) → IsAmong c cat.pg_class → (q : QName) → class_path cat.pg_namespace c ≡ Some q → (e : Entry) → IsIn e (relation_entries cat rows c q) → IsIn e (entries_of cat rows)
  of_class c among q path e here = of_classes e (in_flat (class_entries cat rows) cat.pg_class c e among (path_in e (class_path cat.pg_namespace c) (relation_entries cat rows c) q path here))
