-- What depends on what, by the ids of objects, and what the references of texts lead to.
use Rattle.std.specs.Prelude.{ℕ, false, List, map, filter_map, Option, Some, None, option_map, unwrap_or}
use Rattle.std.specs.List.{filter}
use Rattle.std.specs.Map.{lookup}
use Rattle.std.specs.declared.cmp.Ordering.{Ordering}
use Rattle.std.specs.Ordering.{nat_cmp, eq_by_cmp}
use Rattle.cat_rows.specs.declared.catalogue.Catalogue.{Catalogue}
use Rattle.cat_rows.specs.declared.relations.ClassRow.{ClassRow}
use Rattle.cat_rows.specs.declared.types.TypeRow.{TypeRow}
use Rattle.cat_model.specs.declared.key.Key.{Key}
use Rattle.cat_model.specs.declared.key.Key.TheVariants as key
use Rattle.cat_model.specs.declared.object.QName.{QName}
use Rattle.cat_book.specs.Leads.{is_key}
use Rattle.cat_book.specs.Paths.{path_cmp, type_path, class_path}
use Rattle.graph_parts.specs.declared.object.Obj.{Obj}
use Rattle.graph_parts.specs.declared.object.ObjId.{ObjId}
use Rattle.obj_graph.specs.declared.link.Link.{Link}
use Rattle.obj_graph.specs.Ids.{type_id, relation_id, constraint_id}

-- What breaks a cycle is a default that comes to stand alone, or the rule of a view that comes to be a dummy. A link that
-- belongs to one of these moves to it, and stays as well where the object needs the other one also without it.
abbrev pub linked : ObjId → Option Obj → ObjId → Link
linked from moves_to to = record { from = from; to = to; moves_to = moves_to; stays = false }

-- a link that never moves
abbrev pub link : ObjId → ObjId → Link
link from to = linked from None to

-- one that moves to an object
abbrev pub moving : ObjId → Obj → ObjId → Link
moving from moves_to to = linked from (Some moves_to) to

-- ---- what names lead to

-- the first of these keys that is the given one, with what stands beside it
abbrev pub first_at : {K A : Type 0} → (K → K → Ordering) → List (K × A) → K → Option A
first_at {K} {A} cmp entries key = lookup (eq_by_cmp cmp key) entries

-- the primary keys and unique constraints, by the oids of their indexes
unfoldable pub key_ends : Catalogue → List (ℕ × ObjId)
key_ends cat = map (λ c. (c.conindid, constraint_id c.oid)) (filter is_key cat.pg_constraint)

-- a relation, where the index of a constraint stands for that constraint
abbrev pub relation_end : Catalogue → ℕ → ObjId
relation_end cat oid = unwrap_or (first_at nat_cmp (key_ends cat) oid) (relation_id oid)

-- the relations and the types, by their paths
abbrev pub relation_at : Catalogue → ClassRow → Option (QName × ObjId)
relation_at cat row = option_map (λ q. (q, relation_end cat row.oid)) (class_path cat.pg_namespace row)

abbrev pub type_at : Catalogue → TypeRow → Option (QName × ObjId)
type_at cat row = option_map (λ q. (q, type_id row.oid)) (type_path cat.pg_namespace row)

unfoldable pub relation_ends : Catalogue → List (QName × ObjId)
relation_ends cat = filter_map (relation_at cat) cat.pg_class

unfoldable pub type_ends : Catalogue → List (QName × ObjId)
type_ends cat = filter_map (type_at cat) cat.pg_type

-- what a reference leads to
abbrev pub reference_end : Catalogue → Key → Option ObjId
reference_end cat (key.Rel q) = first_at path_cmp (relation_ends cat) q
reference_end cat (key.UserType q) = first_at path_cmp (type_ends cat) q
reference_end cat _ = None

-- the links, each made of its end, to what a text refers to
abbrev pub reference_links : Catalogue → (ObjId → Link) → List Key → List Link
reference_links cat link_to keys = map link_to (filter_map (reference_end cat) keys)
