-- The grants on an object, where they aren't those of a new object.
use Rattle.std.specs.Prelude.{ℕ, List, [], ◌∷◌, Option, None, option_map, codes}
use Rattle.std.specs.Option.{option_and_then}
use Rattle.acl_text.specs.declared.list.AclItem.{AclItem}
use Rattle.cat_rows.specs.declared.catalogue.Catalogue.{Catalogue}
use Rattle.cat_model.specs.declared.grant.Granted.{Granted}
use Rattle.cat_model.specs.declared.grant.Granted.TheVariants as granted
use Rattle.cat_model.specs.declared.stmt.Stmt.{Stmt}
use Rattle.cat_model.specs.Values.{Bytes}
use Rattle.cat_names.specs.declared.rights.GrantKind.{GrantKind}
use Rattle.cat_names.specs.declared.rights.GrantKind.TheVariants as on
use Rattle.cat_names.specs.Kinds.{class_of}
use Rattle.cat_book.specs.Chains.{type_of}
use Rattle.cat_book.specs.Paths.{schema_of}
use Rattle.graph_parts.specs.declared.object.Obj.{Obj}
use Rattle.graph_parts.specs.declared.object.ObjKind.{ObjKind}
use Rattle.graph_parts.specs.declared.object.ObjKind.TheVariants as kind
use Rattle.dump_stmts.specs.Paths.{path_of}
use Rattle.dump_grants.specs.Stmts.{grant_stmts, texts}
use Rattle.dump_toc.specs.declared.draft.Draft.{Draft}
use Rattle.dump_toc.specs.Drafts.{beside}
use Rattle.dump_toc.specs.Owners.{owner_of}
use Rattle.dump_toc.specs.Tags.{grants_tag}

-- what rights are granted on; an object of another kind has none
abbrev pub granted_as : Obj → ObjKind → Option Granted
granted_as o kind.Schema = option_map granted.Schema o.name
granted_as o kind.UserType = option_map granted.Type (path_of o)
granted_as o kind.Table = option_map granted.Table (path_of o)
granted_as o kind.View = option_map granted.Table (path_of o)
granted_as o kind.Dummy = option_map granted.Table (path_of o)
granted_as o kind.Sequence = option_map granted.Sequence (path_of o)
granted_as o other = None

-- the rights that there are on it
abbrev pub grant_kind : ObjKind → GrantKind
grant_kind kind.Schema = on.Schema
grant_kind kind.UserType = on.Type
grant_kind kind.Sequence = on.Sequence
grant_kind other = on.Table

-- its list of rights
abbrev pub acl_of : Catalogue → Obj → ObjKind → Option (Option (List AclItem))
acl_of cat o kind.Schema = option_map (λ s. s.nspacl) (schema_of cat.pg_namespace o.id.oid)
acl_of cat o kind.UserType = option_map (λ t. t.typacl) (type_of cat.pg_type o.id.oid)
acl_of cat o other = option_map (λ r. r.relacl) (class_of cat.pg_class o.id.oid)

abbrev pub grants_draft : Catalogue → Obj → ℕ → Granted → List Stmt → Draft
grants_draft cat o place what stmts = beside cat o (codes "ACL") 1 (grants_tag what) (texts stmts) (place ∷ [])

abbrev pub granted_draft : Catalogue → Obj → ℕ → Bytes → Option (List AclItem) → Granted → Option Draft
granted_draft cat o place owner acl what = option_map (grants_draft cat o place what) (grant_stmts (grant_kind o.kind) what owner acl)

-- the entry of the grants on the object at a place
unfoldable pub rights_draft : Catalogue → Obj → ℕ → Option Draft
rights_draft cat o place =
    option_and_then (λ acl. option_and_then (λ owner. option_and_then (granted_draft cat o place owner acl) (granted_as o o.kind)) (owner_of cat o)) (acl_of cat o o.kind)
