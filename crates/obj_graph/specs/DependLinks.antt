-- What a row of pg_depend adds: the object that it names first depends on the one that it names second.
-- A rewrite row stands for its view, a default for its table, a check for its table or domain, and the index of a constraint
-- for that constraint. A row that names anything else adds nothing.
use Rattle.std.specs.Prelude.{ℕ, false, ◌==◌, List, [], ◌∷◌, Option, Some, None, if◌then◌else◌}
use Rattle.std.specs.List.{find}
use Rattle.std.specs.Option.{option_map, option_and_then}
use Rattle.cat_rows.specs.declared.catalogue.Catalogue.{Catalogue}
use Rattle.cat_rows.specs.declared.relations.AttrdefRow.{AttrdefRow}
use Rattle.cat_rows.specs.declared.relations.RewriteRow.{RewriteRow}
use Rattle.cat_rows.specs.declared.constraints.ConstraintRow.{ConstraintRow}
use Rattle.cat_rows.specs.declared.notes.DependRow.{DependRow}
use Rattle.cat_names.specs.Lookups.{same_oid}
use Rattle.cat_book.specs.Leads.{constraint_of}
use Rattle.constraint_table.specs.Table.{is_check}
use Rattle.graph_parts.specs.declared.object.Obj.{Obj}
use Rattle.graph_parts.specs.declared.object.ObjId.{ObjId}
use Rattle.obj_graph.specs.Ids.{schema_id, type_id, relation_id, constraint_id}
use Rattle.obj_graph.specs.declared.link.Link.{Link}
use Rattle.obj_graph.specs.Links.{relation_end}
use Rattle.obj_graph.specs.Objects.{default_object, rule_object}
use Rattle.obj_graph.specs.RelationLinks.{is_kept}
use Rattle.obj_graph.specs.ConstraintLinks.{check_owner}

-- ---- what a row names

-- the first default and the first rewrite row of an oid, and the rewrite row of a view
abbrev pub default_of : Catalogue → ℕ → Option AttrdefRow
default_of cat oid = find (λ d. same_oid oid d.oid) cat.pg_attrdef

abbrev pub rewrite_of : Catalogue → ℕ → Option RewriteRow
rewrite_of cat oid = find (λ r. same_oid oid r.oid) cat.pg_rewrite

abbrev pub rewrite_of_view : Catalogue → ℕ → Option RewriteRow
rewrite_of_view cat oid = find (λ r. same_oid oid r.ev_class) cat.pg_rewrite

abbrev pub constraint_end : ConstraintRow → ObjId
constraint_end row = if is_check row then check_owner row else constraint_id row.oid

-- what stands for an object of this class and oid
abbrev pub named_end : Catalogue → ℕ → ℕ → Option ObjId
named_end cat class oid =
    if class == 2615 then Some (schema_id oid)
    else if class == 1247 then Some (type_id oid)
    else if class == 1259 then Some (relation_end cat oid)
    else if class == 2604 then option_map (λ d. relation_id d.adrelid) (default_of cat oid)
    else if class == 2606 then option_map constraint_end (constraint_of cat oid)
    else if class == 2618 then option_map (λ r. relation_id r.ev_class) (rewrite_of cat oid)
    else None

-- ---- what the link moves to

-- the rule of a view, where a dummy view doesn't need the other object too; other relations have no rule
abbrev pub view_moves : Catalogue → ℕ → ObjId → Option Obj
view_moves cat relation to = if is_kept cat relation to then None else option_map (rule_object cat) (rewrite_of_view cat relation)

-- what is named as a default moves with it, and what is named as a view or its rewrite row moves to the rule
abbrev pub named_moves : Catalogue → ℕ → ℕ → ObjId → Option Obj
named_moves cat class oid to =
    if class == 2604 then option_map (default_object cat) (default_of cat oid)
    else if class == 1259 then view_moves cat oid to
    else if class == 2618 then option_and_then (λ r. view_moves cat r.ev_class to) (rewrite_of cat oid)
    else None

abbrev pub between : Catalogue → DependRow → Option ObjId → Option ObjId → List Link
between cat row (Some from) (Some to) = record { from = from; to = to; moves_to = named_moves cat row.classid row.objid to; stays = false } ∷ []
between cat row _ _ = []

unfoldable pub depend_links : Catalogue → DependRow → List Link
depend_links cat row = between cat row (named_end cat row.classid row.objid) (named_end cat row.refclassid row.refobjid)
