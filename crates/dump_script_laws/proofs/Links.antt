-- What a link moves to is a default or a rule, which can be dumped.
use Rattle.std.proofs.Common.{ℕ, Bool, true, false, cond, List, [], ◌∷◌, ◌++◌, Option, Some, None, refl, inl, inr}
use Rattle.std.specs.Prelude.{◌==◌, filter_map}
use Rattle.std.specs.List.{AllByRecursion, flat_map}
use Rattle.std.specs.Option.{option_and_then, option_map}
use Rattle.std.proofs.lemmas.Bool.{cases_Bool}
use Rattle.cat_model.specs.declared.key.Key.{Key}
use Rattle.cat_model.specs.References.{expression_references, view_references}
use Rattle.cat_model.specs.Values.{Bytes}
use Rattle.cat_rows.specs.declared.catalogue.Catalogue.{Catalogue}
use Rattle.cat_rows.specs.declared.constraints.ConstraintRow.{ConstraintRow}
use Rattle.cat_rows.specs.declared.notes.DependRow.{DependRow}
use Rattle.cat_rows.specs.declared.relations.AttrdefRow.{AttrdefRow}
use Rattle.cat_rows.specs.declared.relations.AttributeRow.{AttributeRow}
use Rattle.cat_rows.specs.declared.relations.ClassRow.{ClassRow}
use Rattle.cat_rows.specs.declared.relations.IndexRow.{IndexRow}
use Rattle.cat_rows.specs.declared.relations.RewriteRow.{RewriteRow}
use Rattle.cat_rows.specs.declared.sequences.SequenceRow.{SequenceRow}
use Rattle.cat_rows.specs.declared.types.TypeRow.{TypeRow}
use Rattle.cat_names.specs.declared.relations.RelationKind.{RelationKind}
use Rattle.cat_names.specs.declared.relations.RelationKind.TheVariants as relation
use Rattle.cat_names.specs.Kinds.{relation_kind}
use Rattle.cat_book.specs.Chains.{is_domain_letter}
use Rattle.cat_book.specs.Paths.{class_path_of}
use Rattle.constraint_table.specs.Said.{constraint_said}
use Rattle.constraint_table.specs.Table.{is_foreign, is_check}
use Rattle.row_texts.specs.ViewTexts.{view_body}
use Rattle.graph_parts.specs.declared.graph.Edge.{Edge}
use Rattle.graph_parts.specs.declared.object.Obj.{Obj}
use Rattle.graph_parts.specs.declared.object.ObjId.{ObjId}
use Rattle.graph_parts.specs.declared.object.ObjKind.{ObjKind}
use Rattle.graph_parts.specs.declared.object.ObjKind.TheVariants as kind
use Rattle.obj_graph.specs.declared.link.Link.{Link}
use Rattle.obj_graph.specs.Ids.{rule_id, constraint_id, relation_id, type_id}
use Rattle.obj_graph.specs.Links.{link, moving, reference_end, reference_links}
use Rattle.obj_graph.specs.Objects.{default_object, rule_object}
use Rattle.obj_graph.specs.TypeLinks.{domain_default_links, type_links}
use Rattle.obj_graph.specs.RelationLinks.{links_of_kind, class_links, column_links, default_links, sequence_links, is_kept, body_link, body_links, view_links}
use Rattle.obj_graph.specs.ConstraintLinks.{check_owner, check_links, keys_on, parent_columns, foreign_links, constraint_links, index_links}
use Rattle.obj_graph.specs.DependLinks.{default_of, rewrite_of, rewrite_of_view, named_end, view_moves, named_moves, between, depend_links}
use Rattle.obj_graph.specs.BoundaryLinks.{boundary_links_by, boundary_links}
use Rattle.obj_graph.specs.Graphs.{holder_links, other_links, links, place_of, between as between_places, edge_of, edges_between}
use Rattle.stmt_laws.specs.Named.{HoldsCells}
use Rattle.stmt_laws.proofs.Lists.{Known, chosen_have}
use Rattle.stmt_laws.proofs.Rows.{class_path_known}
use Rattle.toc_laws.proofs.Remarks.{both_have}
use Rattle.dump_script_laws.proofs.Lists.{any_then, any_map, any_seen, any_flat}
use Rattle.dump_script_laws.proofs.Objects.{IsFit, path_fits, plain_fits, schema_known, name_known}

-- ---- what is made

default_fits : (cat : Catalogue) → HoldsCells cat → (d : AttrdefRow) → IsFit cat (default_object cat d)
default_fits cat holds d = plain_fits cat (default_object cat d) kind.Default (schema_known (class_path_of cat d.adrelid) (class_path_known cat holds d.adrelid)) (name_known (class_path_of cat d.adrelid) (class_path_known cat holds d.adrelid)) refl refl

rule_fits : (cat : Catalogue) → HoldsCells cat → (r : RewriteRow) → IsFit cat (rule_object cat r)
rule_fits cat holds r = path_fits cat (rule_id r.oid) kind.Rule (class_path_of cat r.ev_class) (class_path_known cat holds r.ev_class) refl refl

-- where a link moves, it moves to such an object; and so with an edge
abbrev pub Moves : Catalogue → Link → Type 0
Moves cat l = Known (IsFit cat) l.moves_to

abbrev pub MovesEdge : Catalogue → Edge → Type 0
MovesEdge cat e = Known (IsFit cat) e.moves_to

abbrev AllMove : Catalogue → List Link → Type 0
AllMove cat ls = AllByRecursion (Moves cat) ls

references_move : (cat : Catalogue) (make : ObjId → Link) → ((to : ObjId) → Moves cat (make to)) → (keys : List Key) → AllMove cat (reference_links cat make keys)
references_move cat make h keys = any_seen (Moves cat) make h (filter_map (reference_end cat) keys)

-- ---- table by table

types_move : (cat : Catalogue) (t : TypeRow) → AllMove cat (type_links cat t)
unfolding type_links
types_move cat t = elim (cases_Bool (is_domain_letter t.typtype)) [ inl is ↦ rw is (tt, (tt, of_default t.typdefault)) | inr isnt ↦ rw isnt (tt, tt) ]
  where
    of_default : (text : Option Bytes) → AllMove cat (domain_default_links cat t text)
    of_default None = tt
    of_default (Some text) = references_move cat (link (type_id t.oid)) (λ to. tt) (expression_references text)

classes_move : (cat : Catalogue) (r : ClassRow) → AllMove cat (class_links r)
unfolding class_links
classes_move cat r = by (relation_kind r.relkind)
  where
    by : (what : RelationKind) → AllMove cat (links_of_kind what r)
    by relation.Index = tt
    by other = (tt, (tt, tt))

columns_move : (cat : Catalogue) (a : AttributeRow) → AllMove cat (column_links a)
unfolding column_links
columns_move cat a = (tt, tt)

defaults_move : (cat : Catalogue) → HoldsCells cat → (d : AttrdefRow) → AllMove cat (default_links cat d)
unfolding default_links
defaults_move cat holds d = references_move cat (moving (relation_id d.adrelid) (default_object cat d)) (λ to. default_fits cat holds d) (expression_references d.adexpr)

foreign_move : (cat : Catalogue) (c : ConstraintRow) → AllMove cat (foreign_links cat c)
foreign_move cat c = (tt, any_seen (Moves cat) (link (constraint_id c.oid)) (λ to. tt) (keys_on cat c.confrelid (parent_columns (constraint_said c.condef))))

constraints_move : (cat : Catalogue) (c : ConstraintRow) → AllMove cat (constraint_links cat c)
unfolding constraint_links
constraints_move cat c = by (is_check c) (is_foreign c)
  where
    by : (check foreign : Bool) → AllMove cat (cond check (check_links cat c) (link (constraint_id c.oid) (relation_id c.conrelid) ∷ cond foreign (foreign_links cat c) []))
    by true foreign = references_move cat (link (check_owner c)) (λ to. tt) (expression_references c.condef)
    by false true = (tt, foreign_move cat c)
    by false false = (tt, tt)

indexes_move : (cat : Catalogue) (i : IndexRow) → AllMove cat (index_links i)
unfolding index_links
indexes_move cat i = (tt, tt)

sequences_move : (cat : Catalogue) (s : SequenceRow) → AllMove cat (sequence_links s)
unfolding sequence_links
sequences_move cat s = (tt, tt)

views_move : (cat : Catalogue) → HoldsCells cat → (r : RewriteRow) → AllMove cat (view_links cat r)
unfolding view_links
views_move cat holds r = by (view_body r.viewdef)
  where
    by : (body : Option Bytes) → AllMove cat (body_links cat r body)
    by None = tt
    by (Some body) = references_move cat (body_link cat r) (λ to. rule_fits cat holds r) (view_references body)

-- ---- pg_depend

view_moves_fit : (cat : Catalogue) → HoldsCells cat → (relation : ℕ) (to : ObjId) → Known (IsFit cat) (view_moves cat relation to)
view_moves_fit cat holds relation to = by (is_kept cat relation to)
  where
    by : (kept : Bool) → Known (IsFit cat) (cond kept None (option_map (rule_object cat) (rewrite_of_view cat relation)))
    by true = tt
    by false = any_map (IsFit cat) (rule_object cat) (rule_fits cat holds) (rewrite_of_view cat relation)

named_moves_fit : (cat : Catalogue) → HoldsCells cat → (class oid : ℕ) (to : ObjId) → Known (IsFit cat) (named_moves cat class oid to)
named_moves_fit cat holds class oid to = by (class == 2604) (class == 1259) (class == 2618)
  where
    by : (a b c : Bool) → Known (IsFit cat) (cond a (option_map (default_object cat) (default_of cat oid)) (cond b (view_moves cat oid to) (cond c (option_and_then (λ r. view_moves cat r.ev_class to) (rewrite_of cat oid)) None)))
    by true b c = any_map (IsFit cat) (default_object cat) (default_fits cat holds) (default_of cat oid)
    by false true c = view_moves_fit cat holds oid to
    by false false true = any_then (IsFit cat) (λ r. view_moves cat r.ev_class to) (λ r. view_moves_fit cat holds r.ev_class to) (rewrite_of cat oid)
    by false false false = tt

depends_move : (cat : Catalogue) → HoldsCells cat → (d : DependRow) → AllMove cat (depend_links cat d)
unfolding depend_links
depends_move cat holds d = by (named_end cat d.classid d.objid) (named_end cat d.refclassid d.refobjid)
  where
    by : (from to : Option ObjId) → AllMove cat (between cat d from to)
    by (Some from) (Some to) = (named_moves_fit cat holds d.classid d.objid to, tt)
    by None to = tt
    by from None = tt

-- ---- all links

boundaries_move : (cat : Catalogue) (o : Obj) → AllMove cat (boundary_links o)
unfolding boundary_links
boundaries_move cat o = by o.kind
  where
    by : (k : ObjKind) → AllMove cat (boundary_links_by k o.id)
    by kind.TableData = (tt, (tt, tt))
    by kind.SeqValue = (tt, (tt, tt))
    by kind.PostData = tt
    by other = (tt, tt)

holders_move : (cat : Catalogue) → HoldsCells cat → AllMove cat (holder_links cat)
unfolding holder_links
holders_move cat holds =
    let types = flat_map (type_links cat) cat.pg_type in
    let classes = flat_map class_links cat.pg_class in
    let columns = flat_map column_links cat.pg_attribute in
    both_have (Moves cat) (types ++ classes ++ columns) (flat_map (default_links cat) cat.pg_attrdef)
    (both_have (Moves cat) (types ++ classes) columns
    (both_have (Moves cat) types classes (any_flat (Moves cat) (type_links cat) (types_move cat) cat.pg_type) (any_flat (Moves cat) class_links (classes_move cat) cat.pg_class))
    (any_flat (Moves cat) column_links (columns_move cat) cat.pg_attribute))
    (any_flat (Moves cat) (default_links cat) (defaults_move cat holds) cat.pg_attrdef)

others_move : (cat : Catalogue) → HoldsCells cat → AllMove cat (other_links cat)
unfolding other_links
others_move cat holds =
    let constraints = flat_map (constraint_links cat) cat.pg_constraint in
    let indexes = flat_map index_links cat.pg_index in
    let sequences = flat_map sequence_links cat.pg_sequence in
    let views = flat_map (view_links cat) cat.pg_rewrite in
    both_have (Moves cat) (constraints ++ indexes ++ sequences ++ views) (flat_map (depend_links cat) cat.pg_depend)
    (both_have (Moves cat) (constraints ++ indexes ++ sequences) views
    (both_have (Moves cat) (constraints ++ indexes) sequences
    (both_have (Moves cat) constraints indexes (any_flat (Moves cat) (constraint_links cat) (constraints_move cat) cat.pg_constraint) (any_flat (Moves cat) index_links (indexes_move cat) cat.pg_index))
    (any_flat (Moves cat) sequence_links (sequences_move cat) cat.pg_sequence))
    (any_flat (Moves cat) (view_links cat) (views_move cat holds) cat.pg_rewrite))
    (any_flat (Moves cat) (depend_links cat) (depends_move cat holds) cat.pg_depend)

all_move : (cat : Catalogue) → HoldsCells cat → (objects : List Obj) → AllMove cat (links cat ++ flat_map boundary_links objects)
all_move cat holds objects =
    both_have (Moves cat) (links cat) (flat_map boundary_links objects) (both_have (Moves cat) (holder_links cat) (other_links cat) (holders_move cat holds) (others_move cat holds))
    (any_flat (Moves cat) boundary_links (boundaries_move cat) objects)

-- ---- edges

edge_moves : (cat : Catalogue) (l : Link) (from to : Option ℕ) → Moves cat l → Known (MovesEdge cat) (between_places l from to)
edge_moves cat l (Some from) (Some to) is = by (from == to)
  where
    by : (b : Bool) → Known (MovesEdge cat) (cond b None (Some (record { from = from; to = to; moves_to = l.moves_to; stays = l.stays })))
    by true = tt
    by false = is
edge_moves cat l None to is = tt
edge_moves cat l from None is = tt

pub edges_move : (cat : Catalogue) → HoldsCells cat → (objects : List Obj) → AllByRecursion (MovesEdge cat) (edges_between objects (links cat ++ flat_map boundary_links objects))
unfolding edges_between
edges_move cat holds objects =
    chosen_have (Moves cat) (MovesEdge cat) (edge_of objects) (links cat ++ flat_map boundary_links objects) (all_move cat holds objects) (λ l is. edge_moves cat l (place_of objects l.from) (place_of objects l.to) is)
