-- When a selection is closed over an opening: what it chooses needs nothing that is neither chosen nor in the opening.
-- What is needed is looked at before any cycle is cut, and an object of a section that isn't taken isn't chosen.
use Rattle.std.specs.Prelude.{◌≡◌, ◌≢◌, ℕ, Bool, true, false, ◌==◌, List, [], map, Option, Some, None, codes, if◌then◌else◌}
use Rattle.std.specs.List.{filter, Contains}
use Rattle.std.specs.Option.{option_map, option_and_then, IsSomeAnd}
use Rattle.acl_text.specs.declared.list.AclItem.{AclItem}
use Rattle.cat_rows.specs.declared.catalogue.Catalogue.{Catalogue}
use Rattle.cat_rows.specs.declared.constraints.ConstraintRow.{ConstraintRow}
use Rattle.cat_rows.specs.declared.relations.ClassRow.{ClassRow}
use Rattle.cat_rows.specs.declared.schemas.NamespaceRow.{NamespaceRow}
use Rattle.cat_rows.specs.declared.types.TypeRow.{TypeRow}
use Rattle.cat_model.specs.declared.key.Key.{Key}
use Rattle.cat_model.specs.declared.key.Key.TheVariants as key
use Rattle.cat_model.specs.declared.words.Sections.{Sections}
use Rattle.cat_model.specs.Values.{Bytes}
use Rattle.cat_names.specs.declared.relations.RelationKind.{RelationKind}
use Rattle.cat_names.specs.declared.relations.RelationKind.TheVariants as relation
use Rattle.cat_names.specs.declared.rights.GrantKind.{GrantKind}
use Rattle.cat_names.specs.declared.rights.GrantKind.TheVariants as on
use Rattle.cat_names.specs.Grants.{grants_of, default_grants}
use Rattle.cat_names.specs.Kinds.{relation_kind}
use Rattle.cat_names.specs.Lookups.{has_key, role_name}
use Rattle.cat_book.specs.Leads.{constraint_of}
use Rattle.cat_book.specs.Paths.{schema_of, path_of, class_path_of}
use Rattle.constraint_table.specs.Table.{is_foreign}
use Rattle.graph_parts.specs.declared.object.ObjId.{ObjId}
use Rattle.graph_parts.specs.declared.object.ObjKind.{ObjKind}
use Rattle.graph_parts.specs.declared.object.ObjKind.TheVariants as kind
use Rattle.obj_graph.specs.declared.link.Link.{Link}
use Rattle.obj_graph.specs.declared.select.Select.{Select}
use Rattle.obj_graph.specs.Ids.{id_cmp, schema_id, type_id, relation_id, constraint_id, data_id}
use Rattle.obj_graph.specs.Objects.{objects_of}
use Rattle.obj_graph.specs.Graphs.{links}

-- ---- what is chosen

-- whether the entry of an object of a kind stands in a chosen section; the boundaries have none
abbrev pub is_in_sections : Sections → ObjKind → Bool
is_in_sections sections kind.Schema = sections.pre
is_in_sections sections kind.UserType = sections.pre
is_in_sections sections kind.Table = sections.pre
is_in_sections sections kind.View = sections.pre
is_in_sections sections kind.Dummy = sections.pre
is_in_sections sections kind.Sequence = sections.pre
is_in_sections sections kind.Default = sections.pre
is_in_sections sections kind.PreData = false
is_in_sections sections kind.TableData = sections.rows
is_in_sections sections kind.SeqValue = sections.rows
is_in_sections sections kind.PostData = false
is_in_sections sections kind.Constraint = sections.post
is_in_sections sections kind.Index = sections.post
is_in_sections sections kind.Rule = sections.post
is_in_sections sections kind.Foreign = sections.post

-- whether a selection chooses the object of an id
abbrev pub is_chosen : Catalogue → Select → ObjId → Bool
is_chosen cat select id = has_key id_cmp (map (λ o. o.id) (filter (λ o. is_in_sections select.sections o.kind) (objects_of cat select))) id

-- the selection that chooses all
abbrev pub whole : Select
whole = record {
  schemas = [];
  not_schemas = [];
  tables = [];
  not_tables = [];
  not_table_data = [];
  schema_only = false;
  data_only = false;
  strict = false;
  owners = true;
  grants = true;
  comments = true;
  sections = record { pre = true; rows = true; post = true };
}

-- whether there is an object of an id
abbrev pub is_object : Catalogue → ObjId → Bool
is_object cat id = is_chosen cat whole id

-- ---- the opening

-- what is looked at of an opening: which keys it has, the name of the role that owns what is created, and the owner of its
-- schema public
pub record Opening : Type 0 where
  pub has : Key → Bool
  pub boot : Bytes
  pub owner_of_public : Option Bytes

-- the key that an object is by its names
abbrev pub key_of : Catalogue → ObjId → Option Key
key_of cat id =
    if id.class == 2615 then option_map (λ s. key.Schema s.nspname) (schema_of cat.pg_namespace id.oid)
    else if id.class == 1247 then option_map key.UserType (path_of cat id.oid)
    else if id.class == 1259 then option_map key.Rel (class_path_of cat id.oid)
    else if id.class == 2606 then option_and_then (λ c. option_map (λ q. key.Con q c.conname) (class_path_of cat c.conrelid)) (constraint_of cat id.oid)
    else None

-- ---- grants that aren't the default, whose statements name the owner

abbrev pub IsGranted : Catalogue → GrantKind → ℕ → Option (List AclItem) → Bytes → Type 0
IsGranted cat what owner acl name = (role_name cat.pg_authid owner ≡ Some name) × (grants_of what name acl ≢ default_grants what)

-- the kind of a relation's grants; an index has none
abbrev pub grant_kind : RelationKind → GrantKind
grant_kind relation.Sequence = on.Sequence
grant_kind _ = on.Table

-- each chosen grant is on an object of the role that owns what is created, and so is the opening's schema public where a
-- grant on that schema is among them
pub record AreOwned (cat : Catalogue) (select : Select) (opening : Opening) : Type 0 where
  pub schemas : (s : NamespaceRow) (owner : Bytes) → Contains cat.pg_namespace s → is_chosen cat select (schema_id s.oid) ≡ true → IsGranted cat on.Schema s.nspowner s.nspacl owner → owner ≡ opening.boot
  pub types : (t : TypeRow) (owner : Bytes) → Contains cat.pg_type t → is_chosen cat select (type_id t.oid) ≡ true → IsGranted cat on.Type t.typowner t.typacl owner → owner ≡ opening.boot
  pub relations : (r : ClassRow) (owner : Bytes) → Contains cat.pg_class r → is_chosen cat select (relation_id r.oid) ≡ true → IsGranted cat (grant_kind (relation_kind r.relkind)) r.relowner r.relacl owner → owner ≡ opening.boot
  pub public : (s : NamespaceRow) (owner : Bytes) → Contains cat.pg_namespace s → s.nspname ≡ codes "public" → is_chosen cat select (schema_id s.oid) ≡ true → IsGranted cat on.Schema s.nspowner s.nspacl owner → opening.owner_of_public ≡ Some opening.boot

-- ---- closed

pub record IsClosed (cat : Catalogue) (select : Select) (opening : Opening) : Type 0 where
  -- what a chosen object depends on is chosen, or in the opening
  pub needs : (l : Link) → Contains (links cat) l → is_chosen cat select l.from ≡ true → is_object cat l.to ≡ true → is_chosen cat select l.to ≡ false → IsSomeAnd (key_of cat l.to) (λ k. opening.has k ≡ true)
  -- a foreign key whose rows are chosen has the rows of its parent
  pub parents : (c : ConstraintRow) → Contains cat.pg_constraint c → is_foreign c ≡ true → is_chosen cat select (constraint_id c.oid) ≡ true → is_chosen cat select (data_id c.conrelid) ≡ true → is_chosen cat select (data_id c.confrelid) ≡ true
  -- without owners, but with grants
  pub owned : select.owners ≡ false → select.grants ≡ true → AreOwned cat select opening
