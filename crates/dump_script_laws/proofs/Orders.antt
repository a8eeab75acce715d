-- The objects of a dump of a well-formed catalogue, in their order, can be dumped.
use Rattle.std.proofs.Common.{◌≡◌, ℕ, ◌+◌, Bool, true, false, cond, ◌&&◌, List, [], ◌∷◌, map, Option, Some, None, Result, Ok, Err, refl, sym, ap, subst, ◌∙◌, inl, inr}
use Rattle.std.specs.Prelude.{is_some, nat_eq, nat_le, length}
use Rattle.std.specs.List.{AllByRecursion, list_any, enumerate_from, slice_get}
use Rattle.std.specs.Option.{option_map_or}
use Rattle.std.proofs.lemmas.Bool.{cases_Bool}
use Rattle.cat_rows.specs.declared.catalogue.Catalogue.{Catalogue}
use Rattle.well_formed.specs.Formed.{IsWellFormed}
use Rattle.graph_parts.specs.declared.graph.Edge.{Edge}
use Rattle.graph_parts.specs.declared.object.Obj.{Obj}
use Rattle.graph_parts.specs.declared.object.ObjId.{ObjId}
use Rattle.graph_parts.specs.declared.object.ObjKind.{ObjKind}
use Rattle.graph_parts.specs.declared.object.ObjKind.TheVariants as kind
use Rattle.graph_parts.specs.Parts.{Parts}
use Rattle.dep_sort.specs.Cut.{CutGraph, is_view, breaks, made_at, made_once, made_by, without_body, made_of, cut}
use Rattle.dep_sort.specs.Ordering.{Sorted, final_places, sorted, due_if, due}
use Rattle.obj_graph.specs.declared.select.Select.{Select}
use Rattle.obj_graph.specs.declared.select.SelectFault.{SelectFault}
use Rattle.obj_graph.specs.Chosen.{select_fault}
use Rattle.obj_graph.specs.Due.{unless_refused}
use Rattle.obj_graph.specs.Graphs.{graph_of}
use Rattle.obj_graph.specs.Objects.{objects_of}
use Rattle.toc_entry.specs.declared.entry.Entry.{Entry}
use Rattle.dump_toc.specs.Toc.{Refusal, too_many, drafts_of, toc_of, counted, ordered_due, graph_due, toc}
use Rattle.stmt_laws.specs.Named.{HoldsCells}
use Rattle.stmt_laws.proofs.Lists.{Known, seen_have}
use Rattle.toc_laws.specs.Dumps.{IsDumpable, IsDump}
use Rattle.toc_laws.proofs.Dumps.{placed_have}
use Rattle.toc_laws.proofs.Remarks.{both_have}
use Rattle.dump_script_laws.proofs.Lists.{any_chosen, got_has}
use Rattle.dump_script_laws.proofs.Links.{MovesEdge, edges_move}
use Rattle.dump_script_laws.proofs.Objects.{Fits, IsFit, dumpable, objects_fit}
use Rattle.dump_script_laws.proofs.Rights.{AreRoles, roles_are}

-- ---- the cut graph

viewed : (k : ObjKind) → is_view k ≡ true → k ≡ kind.View
viewed kind.View e = refl
viewed k e = absurd cc

dummy_fits : (cat : Catalogue) (o : Obj) → Fits cat o kind.View → IsFit cat (record o { kind = kind.Dummy })
dummy_fits cat o f = record { named = f.named; path = λ e. absurd cc; rights = f.rights }

bodiless_fits : (cat : Catalogue) (edges : List Edge) (place : ℕ × Obj) → IsFit cat place.1 → IsFit cat (without_body edges place)
unfolding without_body
bodiless_fits cat edges place f = by (is_view place.1.kind) refl (list_any (λ edge. nat_eq edge.from place.0 && breaks edges edge) edges)
  where
    by : (view : Bool) → is_view place.1.kind ≡ view → (broken : Bool) → IsFit cat (cond (view && broken) (record place.1 { kind = kind.Dummy }) place.1)
    by false is broken = f
    by true is false = f
    by true is true = dummy_fits cat place.1 (subst (Fits cat place.1) (viewed place.1.kind is) f)

once_fits : (cat : Catalogue) (made : List Obj) (o : Obj) → AllByRecursion (IsFit cat) made → IsFit cat o → AllByRecursion (IsFit cat) (made_once made o)
unfolding made_once
once_fits cat made o fit is = elim (cases_Bool (is_some (made_at made o.id))) [ inl there ↦ rw there fit | inr new ↦ rw new (both_have (IsFit cat) made (o ∷ []) fit (is, tt)) ]

taken_fits : (cat : Catalogue) (made : List Obj) (to : Option Obj) → AllByRecursion (IsFit cat) made → Known (IsFit cat) to → AllByRecursion (IsFit cat) (option_map_or (made_once made) to made)
taken_fits cat made None fit is = fit
taken_fits cat made (Some o) fit is = once_fits cat made o fit is

made_fit : (cat : Catalogue) (all edges : List Edge) (made : List Obj) → AllByRecursion (MovesEdge cat) edges → AllByRecursion (IsFit cat) made → AllByRecursion (IsFit cat) (made_by all edges made)
unfolding made_by
made_fit cat all [] made moves fit = fit
made_fit cat all (edge ∷ edges) made moves fit = elim (cases_Bool (breaks all edge)) [
  | inl is ↦ rw is (made_fit cat all edges (option_map_or (made_once made) edge.moves_to made) moves.1 (taken_fits cat made edge.moves_to fit moves.0))
  | inr isnt ↦ rw isnt (made_fit cat all edges made moves.1 fit)
]

cut_fits : (cat : Catalogue) (graph : Parts) → AllByRecursion (IsFit cat) graph.objects → AllByRecursion (MovesEdge cat) graph.edges → AllByRecursion (IsFit cat) (cut graph).objects
unfolding cut made_of
cut_fits cat graph fit moves =
    both_have (IsFit cat) (map (without_body graph.edges) (enumerate_from 0 graph.objects)) (made_by graph.edges graph.edges [])
    (seen_have (λ (p : ℕ × Obj). IsFit cat p.1) (IsFit cat) (without_body graph.edges) (enumerate_from 0 graph.objects) (placed_have (IsFit cat) 0 graph.objects fit) (bodiless_fits cat graph.edges))
    (made_fit cat graph.edges graph.edges [] moves tt)

-- ---- the order

sorted_fits : (cat : Catalogue) (graph : CutGraph) → AllByRecursion (IsFit cat) graph.objects → AllByRecursion (IsFit cat) (sorted graph).objects
unfolding sorted
sorted_fits cat graph fit = any_chosen (IsFit cat) (slice_get graph.objects) (got_has (IsFit cat) graph.objects fit) (final_places graph)

due_by : (b : Bool) (graph : CutGraph) (order : Sorted) → due_if b graph ≡ Ok order → sorted graph ≡ order
unfolding due_if
due_by true graph order e = cc
due_by false graph order e = absurd cc

due_sorts : (graph : Parts) (order : Sorted) → due graph ≡ Ok order → sorted (cut graph) ≡ order
unfolding due
due_sorts graph order e = due_by (nat_eq (length (final_places (cut graph))) (length (cut graph).objects)) (cut graph) order e

graph_fits : (cat : Catalogue) → HoldsCells cat → IsWellFormed cat → (select : Select) → AllByRecursion (IsFit cat) (cut (graph_of cat select)).objects
unfolding graph_of
graph_fits cat holds formed select = cut_fits cat (graph_of cat select) (objects_fit cat holds (roles_are cat holds formed) formed select) (edges_move cat holds (objects_of cat select))

each_dumps : (cat : Catalogue) → AreRoles cat.pg_authid → (os : List Obj) → AllByRecursion (IsFit cat) os → AllByRecursion (IsDumpable cat) os
each_dumps cat roles [] fit = tt
each_dumps cat roles (o ∷ os) fit = (dumpable cat roles o fit.0, each_dumps cat roles os fit.1)

pub is_dump : (cat : Catalogue) (select : Select) (order : Sorted) → HoldsCells cat → IsWellFormed cat → due (graph_of cat select) ≡ Ok order → IsDump cat order
is_dump cat select order holds formed e =
    let fit = subst (λ (s : Sorted). AllByRecursion (IsFit cat) s.objects) (due_sorts (graph_of cat select) order e) (sorted_fits cat (cut (graph_of cat select)) (graph_fits cat holds formed select)) in
    record { cells = holds; objects = each_dumps cat (roles_are cat holds formed) order.objects fit }

-- ---- the table of contents

pub record IsOf (cat : Catalogue) (select : Select) (entries : List Entry) : Type 0 where
  pub order : Sorted
  pub sorts : due (graph_of cat select) ≡ Ok order
  pub are : entries ≡ toc_of cat select order

counted_by : (b : Bool) (entries due : List Entry) (why : Refusal) → cond {A = Result (List Entry) Refusal} b (Ok due) (Err why) ≡ Ok entries → entries ≡ due
counted_by true entries due why e = cc
counted_by false entries due why e = absurd cc

counted_is : (cat : Catalogue) (select : Select) (order : Sorted) (entries : List Entry) → counted cat select order ≡ Ok entries → entries ≡ toc_of cat select order
unfolding counted
counted_is cat select order entries e = counted_by (nat_le (length (drafts_of cat select order) + 4) 200000) entries (toc_of cat select order) (too_many (length (drafts_of cat select order) + 4)) e

pub toc_is : (cat : Catalogue) (select : Select) (entries : List Entry) → toc cat select ≡ Ok entries → IsOf cat select entries
unfolding toc
toc_is cat select entries e = by (select_fault cat select) (due (graph_of cat select)) refl e
  where
    by : (fault : Option SelectFault) (found : Result Sorted (List ObjId)) → due (graph_of cat select) ≡ found → graph_due cat select (unless_refused fault (graph_of cat select)) ≡ Ok entries → IsOf cat select entries
    by (Some fault) found is f = absurd cc
    by None (Ok order) is f = record { order = order; sorts = is; are = counted_is cat select order entries (sym (ap (ordered_due cat select) is) ∙ f) }
    by None (Err path) is f = absurd (let g = sym (ap (ordered_due cat select) is) ∙ f in cc)
