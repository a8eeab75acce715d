-- The owners of objects.
use Rattle.std.specs.Prelude.{ℕ, Option, Some, None, option_map}
use Rattle.std.specs.Option.{option_and_then}
use Rattle.cat_rows.specs.declared.catalogue.Catalogue.{Catalogue}
use Rattle.cat_model.specs.Values.{Bytes}
use Rattle.cat_names.specs.Kinds.{class_of}
use Rattle.cat_names.specs.Lookups.{role_name}
use Rattle.cat_book.specs.Chains.{type_of}
use Rattle.cat_book.specs.Leads.{constraint_of}
use Rattle.cat_book.specs.Paths.{schema_of}
use Rattle.graph_parts.specs.declared.object.Obj.{Obj}
use Rattle.graph_parts.specs.declared.object.ObjKind.{ObjKind}
use Rattle.graph_parts.specs.declared.object.ObjKind.TheVariants as kind
use Rattle.dump_rows.specs.Rows.{default_of, index_of, rewrite_of}

-- the relation that an object is, or belongs to
abbrev pub relation_of : Catalogue → Obj → ObjKind → Option ℕ
relation_of cat o kind.Schema = None
relation_of cat o kind.UserType = None
relation_of cat o kind.Table = Some o.id.oid
relation_of cat o kind.View = Some o.id.oid
relation_of cat o kind.Dummy = Some o.id.oid
relation_of cat o kind.Sequence = Some o.id.oid
relation_of cat o kind.Default = option_map (λ d. d.adrelid) (default_of cat o.id.oid)
relation_of cat o kind.PreData = None
relation_of cat o kind.TableData = Some o.id.oid
relation_of cat o kind.SeqValue = Some o.id.oid
relation_of cat o kind.PostData = None
relation_of cat o kind.Constraint = option_map (λ c. c.conrelid) (constraint_of cat o.id.oid)
relation_of cat o kind.Index = option_map (λ i. i.indrelid) (index_of cat o.id.oid)
relation_of cat o kind.Rule = option_map (λ r. r.ev_class) (rewrite_of cat o.id.oid)
relation_of cat o kind.Foreign = option_map (λ c. c.conrelid) (constraint_of cat o.id.oid)

-- the oid of the role that owns a relation
abbrev pub relation_owner : Catalogue → ℕ → Option ℕ
relation_owner cat relation = option_map (λ r. r.relowner) (class_of cat.pg_class relation)

abbrev pub owner_oid : Catalogue → Obj → ObjKind → Option ℕ
owner_oid cat o kind.Schema = option_map (λ s. s.nspowner) (schema_of cat.pg_namespace o.id.oid)
owner_oid cat o kind.UserType = option_map (λ t. t.typowner) (type_of cat.pg_type o.id.oid)
owner_oid cat o other = option_and_then (relation_owner cat) (relation_of cat o other)

-- the name of the role that owns an object, or the relation that it belongs to
unfoldable pub owner_of : Catalogue → Obj → Option Bytes
owner_of cat o = option_and_then (role_name cat.pg_authid) (owner_oid cat o o.kind)
