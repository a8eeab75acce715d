-- The objects of a catalogue of schemas, and the graph that nothing of is cut.
use Rattle.std.proofs.Common.{◌≡◌, ℕ, ◌+◌, ◌==◌, Bool, true, false, cond, List, [], ◌∷◌, ◌++◌, map, Option, Some, None, refl, ap, ◌∙◌, append_assoc, append-nil}
use Rattle.std.specs.Prelude.{nat_eq, ◌&&◌, filter_map}
use Rattle.std.specs.List.{AllByRecursion, cons_option, enumerate_from, flat_map, list_any}
use Rattle.std.specs.Option.{option_map_or}
use Rattle.cat_rows.specs.declared.roles.AuthidRow.{AuthidRow}
use Rattle.cat_rows.specs.declared.roles.DatabaseRow.{DatabaseRow}
use Rattle.cat_rows.specs.declared.schemas.NamespaceRow.{NamespaceRow}
use Rattle.dep_sort.specs.Cut.{is_view, breaks, made_once, made_by, without_body, made_of, cut}
use Rattle.graph_parts.specs.declared.graph.Edge.{Edge}
use Rattle.graph_parts.specs.declared.object.Obj.{Obj}
use Rattle.graph_parts.specs.declared.object.ObjId.{ObjId}
use Rattle.graph_parts.specs.declared.object.ObjKind.{ObjKind}
use Rattle.graph_parts.specs.declared.object.ObjKind.TheVariants as kind
use Rattle.obj_graph.specs.declared.link.Link.{Link}
use Rattle.obj_graph.specs.BoundaryLinks.{boundary_links_by, boundary_links}
use Rattle.obj_graph.specs.Closed.{whole}
use Rattle.obj_graph.specs.Graphs.{holder_links, other_links, place_of, between, edge_of, edges_between, graph_of}
use Rattle.obj_graph.specs.Ids.{schema_id, pre_data, post_data}
use Rattle.obj_graph.specs.Objects.{object, schema_object, objects_of}
use Rattle.schema_dumps.specs.Alone.{alone}

-- ---- the objects

abbrev pub schema_obj : NamespaceRow → Obj
schema_obj row = object (schema_id row.oid) kind.Schema None (Some row.nspname)

abbrev pub boundaries : List Obj
boundaries = object pre_data kind.PreData None None ∷ object post_data kind.PostData None None ∷ []

schemas_are : (schemas : List NamespaceRow) → filter_map (schema_object whole) schemas ≡ map schema_obj schemas
schemas_are [] = refl
schemas_are (row ∷ schemas) = ap (λ (l : List Obj). schema_obj row ∷ l) (schemas_are schemas)

pub objects_are : (roles : List AuthidRow) (databases : List DatabaseRow) (schemas : List NamespaceRow) → objects_of (alone roles databases schemas) whole ≡ map schema_obj schemas ++ boundaries
unfolding objects_of
objects_are roles databases schemas =
    let all = filter_map (schema_object whole) schemas in
    let pre = object pre_data kind.PreData None None in
    let post = object post_data kind.PostData None None in
    append-nil (((((all ++ []) ++ []) ++ pre ∷ []) ++ []) ++ post ∷ [])
    ∙ ap (λ (l : List Obj). l ++ post ∷ []) (append-nil (((all ++ []) ++ []) ++ pre ∷ []) ∙ ap (λ (l : List Obj). l ++ pre ∷ []) (append-nil (all ++ []) ∙ append-nil all ∙ schemas_are schemas))
    ∙ append_assoc (map schema_obj schemas) (pre ∷ []) (post ∷ [])

-- ---- nothing moves

abbrev Stays : Edge → Type 0
Stays edge = edge.moves_to ≡ None

links_stay : (k : ObjKind) (id : ObjId) → AllByRecursion (λ (l : Link). l.moves_to ≡ None) (boundary_links_by k id)
links_stay kind.PostData id = tt
links_stay kind.TableData id = (refl, (refl, tt))
links_stay kind.SeqValue id = (refl, (refl, tt))
links_stay other id = (refl, tt)

both : {A : Type 0} (P : A → Type 0) (xs ys : List A) → AllByRecursion P xs → AllByRecursion P ys → AllByRecursion P (xs ++ ys)
both P [] ys h k = k
both P (x ∷ xs) ys h k = (h.0, both P xs ys h.1 k)

all_stay : (objects : List Obj) → AllByRecursion (λ (l : Link). l.moves_to ≡ None) (flat_map boundary_links objects)
unfolding boundary_links
all_stay [] = tt
all_stay (o ∷ objects) = both (λ (l : Link). l.moves_to ≡ None) (boundary_links_by o.kind o.id) (flat_map boundary_links objects) (links_stay o.kind o.id) (all_stay objects)

between_stays : (l : Link) (from to : Option ℕ) (more : List Edge) → l.moves_to ≡ None → AllByRecursion Stays more → AllByRecursion Stays (cons_option (between l from to) more)
between_stays l None to more stays all = all
between_stays l (Some from) None more stays all = all
between_stays l (Some from) (Some to) more stays all = by (from == to)
  where
    by : (b : Bool) → AllByRecursion Stays (cons_option (cond b None (Some (record { from = from; to = to; moves_to = l.moves_to; stays = l.stays }))) more)
    by true = all
    by false = (stays, all)

edges_stay : (objects : List Obj) (ls : List Link) → AllByRecursion (λ (l : Link). l.moves_to ≡ None) ls → AllByRecursion Stays (filter_map (edge_of objects) ls)
edges_stay objects [] all = tt
edges_stay objects (l ∷ ls) all = between_stays l (place_of objects l.from) (place_of objects l.to) (filter_map (edge_of objects) ls) all.0 (edges_stay objects ls all.1)

none_made : (all edges : List Edge) (made : List Obj) → AllByRecursion Stays edges → made_by all edges made ≡ made
unfolding made_by
none_made all [] made stay = refl
none_made all (edge ∷ edges) made stay = ap (made_by all edges) (by (breaks all edge)) ∙ none_made all edges made stay.1
  where
    by : (b : Bool) → cond b (option_map_or (made_once made) edge.moves_to made) made ≡ made
    by true = ap (λ (o : Option Obj). option_map_or (made_once made) o made) stay.0
    by false = refl

-- ---- and no view loses its body

body_stays : (view broken : Bool) (o : Obj) → view ≡ false → cond (view && broken) (record o { kind = kind.Dummy }) o ≡ o
body_stays true broken o e = absurd cc
body_stays false broken o e = refl

bodies_stay : (edges : List Edge) (n : ℕ) (objects : List Obj) → AllByRecursion (λ (o : Obj). is_view o.kind ≡ false) objects → map (without_body edges) (enumerate_from n objects) ≡ objects
unfolding without_body
bodies_stay edges n [] all = refl
bodies_stay edges n (o ∷ objects) all =
    ap (λ (x : Obj). x ∷ map (without_body edges) (enumerate_from (n + 1) objects)) (body_stays (is_view o.kind) (list_any (λ (edge : Edge). nat_eq edge.from n && breaks edges edge) edges) o all.0)
    ∙ ap (λ (l : List Obj). o ∷ l) (bodies_stay edges (n + 1) objects all.1)

no_views : (schemas : List NamespaceRow) → AllByRecursion (λ (o : Obj). is_view o.kind ≡ false) (map schema_obj schemas ++ boundaries)
no_views [] = (refl, (refl, tt))
no_views (row ∷ schemas) = (refl, no_views schemas)

cut_with : (objects : List Obj) (edges : List Edge) → AllByRecursion (λ (o : Obj). is_view o.kind ≡ false) objects → AllByRecursion Stays edges → (cut (record { objects = objects; edges = edges })).objects ≡ objects
unfolding cut made_of
cut_with objects edges views stay =
    ap (λ (l : List Obj). map (without_body edges) (enumerate_from 0 objects) ++ l) (none_made edges edges [] stay)
    ∙ append-nil (map (without_body edges) (enumerate_from 0 objects))
    ∙ bodies_stay edges 0 objects views

pub cut_objects : (roles : List AuthidRow) (databases : List DatabaseRow) (schemas : List NamespaceRow) → (cut (graph_of (alone roles databases schemas) whole)).objects ≡ map schema_obj schemas ++ boundaries
unfolding graph_of holder_links other_links edges_between
cut_objects roles databases schemas =
    ap (λ (objects : List Obj). (cut (record { objects = objects; edges = filter_map (edge_of objects) (flat_map boundary_links objects) })).objects) (objects_are roles databases schemas)
    ∙ cut_with (map schema_obj schemas ++ boundaries) (filter_map (edge_of (map schema_obj schemas ++ boundaries)) (flat_map boundary_links (map schema_obj schemas ++ boundaries))) (no_views schemas)
    (edges_stay (map schema_obj schemas ++ boundaries) (flat_map boundary_links (map schema_obj schemas ++ boundaries)) (all_stay (map schema_obj schemas ++ boundaries)))
