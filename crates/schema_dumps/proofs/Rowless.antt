-- No entry of a dump of schemas alone has rows.
use Rattle.std.proofs.Common.{◌≡◌, ℕ, ◌+◌, false, List, [], ◌∷◌, ◌++◌, map, Option, Some, None, Ok, refl, sym, ap, subst, ◌∙◌, inl, inr}
use Rattle.std.specs.Prelude.{is_some, filter_map}
use Rattle.std.specs.List.{AllByRecursion, enumerate_from, slice_get, slice_index_or}
use Rattle.std.specs.Option.{option_and_then, option_map, option_to_list}
use Rattle.std.proofs.lemmas.Bool.{cases_Bool}
use Rattle.cat_rows.specs.declared.catalogue.Catalogue.{Catalogue}
use Rattle.cat_rows.specs.declared.roles.AuthidRow.{AuthidRow}
use Rattle.cat_rows.specs.declared.roles.DatabaseRow.{DatabaseRow}
use Rattle.cat_rows.specs.declared.schemas.NamespaceRow.{NamespaceRow}
use Rattle.dep_sort.specs.Cut.{cut}
use Rattle.dep_sort.specs.Ordering.{Sorted}
use Rattle.dep_sort.specs.Sound.{IsOrder}
use Rattle.dump_grants.specs.Stmts.{grant_stmts}
use Rattle.dump_script_laws.proofs.Lists.{any_then, any_map, any_seen, any_chosen, got_has}
use Rattle.dump_script_laws.proofs.Orders.{toc_is}
use Rattle.dump_stmts.specs.Paths.{written}
use Rattle.dump_stmts.specs.Sequences.{owned_stmt}
use Rattle.dump_toc.specs.declared.draft.Draft.{Draft}
use Rattle.dump_toc.specs.Comments.{remarks_of, remark_draft}
use Rattle.dump_toc.specs.Drafts.{copy_of_kind, object_draft, owned_with, owned_drafts_of}
use Rattle.dump_toc.specs.Numbers.{first_ids, entries_from}
use Rattle.dump_toc.specs.Owners.{owner_of}
use Rattle.dump_toc.specs.Rights.{granted_as, grant_kind, acl_of, grants_draft, granted_draft, rights_draft}
use Rattle.dump_toc.specs.Session.{database_entry, current_database, session_entries}
use Rattle.dump_toc.specs.Toc.{standing_of, comment_drafts, drafts_at, taken_at, places_of, object_drafts, counts_of, granted_at, grants_of, drafts_of, toc_of, toc}
use Rattle.graph_parts.specs.declared.object.Obj.{Obj}
use Rattle.graph_parts.specs.declared.object.ObjKind.{ObjKind}
use Rattle.graph_parts.specs.declared.object.ObjKind.TheVariants as kind
use Rattle.obj_graph.specs.Closed.{whole, is_in_sections}
use Rattle.obj_graph.specs.Graphs.{graph_of}
use Rattle.stmt_laws.proofs.Lists.{Known}
use Rattle.toc_entry.specs.declared.entry.Entry.{Entry}
use Rattle.toc_laws.specs.Dumps.{is_data}
use Rattle.toc_laws.proofs.Remarks.{both_have, all_have}
use Rattle.schema_dumps.specs.Alone.{alone}
use Rattle.schema_dumps.proofs.Objects.{schema_obj, boundaries, cut_objects}
use Rattle.schema_dumps.proofs.Said.{OrderLaw}

-- an entry without a line of COPY
abbrev IsPlain : Draft → Type 0
IsPlain d = d.copy_stmt ≡ None

-- an object that isn't the rows of a table
abbrev HoldsNone : Obj → Type 0
HoldsNone o = is_data o.kind ≡ false

-- ---- an object

no_copy : (cat : Catalogue) (o : Obj) (k : ObjKind) → is_data k ≡ false → copy_of_kind cat o k ≡ None
no_copy cat o kind.TableData e = absurd cc
no_copy cat o other e = refl

object_plain : (cat : Catalogue) (standing : List ℕ) (o : Obj) (needs : List ℕ) → HoldsNone o → IsPlain (object_draft cat standing o needs)
unfolding object_draft
object_plain cat standing o needs none = no_copy cat o o.kind none

-- ---- what stands beside it

some_plain : {A : Type 0} (f : A → Draft) → ((x : A) → IsPlain (f x)) → (o : Option A) → AllByRecursion IsPlain (option_to_list (option_map f o))
some_plain f h None = tt
some_plain f h (Some x) = (h x, tt)

owned_plain : (cat : Catalogue) (objects : List Obj) (o : Obj) (needs : List ℕ) (place : ℕ) (k : ObjKind) → AllByRecursion IsPlain (option_to_list (owned_drafts_of cat objects o needs place k))
owned_plain cat objects o needs place kind.Sequence = some_plain (λ s. owned_with cat objects o needs place (written (Some s))) (λ s. refl) (owned_stmt cat o)
owned_plain cat objects o needs place other = tt

taken_plain : (cat : Catalogue) (standing : List ℕ) (order : Sorted) (place : ℕ × Obj) → HoldsNone place.1 → AllByRecursion IsPlain (taken_at cat whole standing order place)
unfolding taken_at
taken_plain cat standing order place none =
    let o = place.1 in
    let needs = slice_index_or order.depends place.0 [] in
    let owned = option_to_list (owned_drafts_of cat order.objects o needs place.0 o.kind) in
    let all : AllByRecursion IsPlain (drafts_at cat whole standing order place.0 o) = (
      object_plain cat standing o needs none,
      both_have IsPlain owned (comment_drafts cat whole o place.0) (owned_plain cat order.objects o needs place.0 o.kind) (any_seen IsPlain (remark_draft cat o place.0) (λ r. refl) (remarks_of cat o)),
    ) in
    elim (cases_Bool (is_in_sections whole.sections o.kind)) [ inl is ↦ rw is all | inr isnt ↦ rw isnt tt ]

granted_plain : (cat : Catalogue) (place : ℕ × Obj) → Known IsPlain (granted_at cat whole place)
unfolding granted_at rights_draft
granted_plain cat place =
    let o = place.1 in
    let all =
    any_then IsPlain (λ acl. option_and_then (λ owner. option_and_then (granted_draft cat o place.0 owner acl) (granted_as o o.kind)) (owner_of cat o))
    (λ acl. any_then IsPlain (λ owner. option_and_then (granted_draft cat o place.0 owner acl) (granted_as o o.kind))
    (λ owner. any_then IsPlain (granted_draft cat o place.0 owner acl)
    (λ what. any_map IsPlain (grants_draft cat o place.0 what) (λ ss. refl) (grant_stmts (grant_kind o.kind) what owner acl)) (granted_as o o.kind)) (owner_of cat o)) (acl_of cat o o.kind) in
    elim (cases_Bool (is_in_sections whole.sections o.kind)) [ inl is ↦ rw is all | inr isnt ↦ rw isnt tt ]

-- ---- all of them

placed : (n : ℕ) (objects : List Obj) → AllByRecursion HoldsNone objects → AllByRecursion (λ (place : ℕ × Obj). HoldsNone place.1) (enumerate_from n objects)
placed n [] all = tt
placed n (o ∷ objects) all = (all.0, placed (n + 1) objects all.1)

drafts_plain : (cat : Catalogue) (order : Sorted) → AllByRecursion HoldsNone order.objects → AllByRecursion IsPlain (drafts_of cat whole order)
drafts_plain cat order none =
    both_have IsPlain (object_drafts cat whole order) (grants_of cat whole order)
    (all_have (λ (place : ℕ × Obj). HoldsNone place.1) IsPlain (taken_at cat whole (standing_of order.objects) order) (places_of order) (placed 0 order.objects none) (λ place. taken_plain cat (standing_of order.objects) order place))
    (any_chosen IsPlain (granted_at cat whole) (granted_plain cat) (places_of order))

-- an entry without rows
abbrev pub IsRowless : Entry → Type 0
IsRowless e = e.has_rows ≡ false

entries_rowless : (ids : List (Option ℕ)) (next : ℕ) (ds : List Draft) → AllByRecursion IsPlain ds → AllByRecursion IsRowless (entries_from ids next ds)
unfolding entries_from
entries_rowless ids next [] all = tt
entries_rowless ids next (d ∷ ds) all = (ap is_some all.0, entries_rowless ids (next + 1) ds all.1)

session_rowless : (cat : Catalogue) → AllByRecursion IsRowless (session_entries cat)
unfolding session_entries
session_rowless cat = (refl, (refl, (refl, by (current_database cat))))
  where
    by : (o : Option DatabaseRow) → AllByRecursion IsRowless (option_to_list (option_map (database_entry cat) o))
    by None = tt
    by (Some d) = (refl, tt)

toc_rowless : (cat : Catalogue) (order : Sorted) → AllByRecursion HoldsNone order.objects → AllByRecursion IsRowless (toc_of cat whole order)
unfolding toc_of
toc_rowless cat order none =
    let drafts = drafts_of cat whole order in
    let ids = first_ids 5 (counts_of cat whole order) in
    both_have IsRowless (session_entries cat) (entries_from ids 5 drafts) (session_rowless cat) (entries_rowless ids 5 drafts (drafts_plain cat order none))

-- ---- of schemas alone

none_held : (schemas : List NamespaceRow) → AllByRecursion HoldsNone (map schema_obj schemas ++ boundaries)
none_held [] = (refl, (refl, tt))
none_held (row ∷ schemas) = (refl, none_held schemas)

sorted_none : (roles : List AuthidRow) (databases : List DatabaseRow) (schemas : List NamespaceRow) (order : Sorted) → IsOrder (cut (graph_of (alone roles databases schemas) whole)) order → AllByRecursion HoldsNone order.objects
sorted_none roles databases schemas order sound =
    let objects = map schema_obj schemas ++ boundaries in
    subst (AllByRecursion HoldsNone) (sym (sound.objects_are ∙ ap (λ (l : List Obj). filter_map (slice_get l) sound.places) (cut_objects roles databases schemas)))
    (any_chosen HoldsNone (slice_get objects) (got_has HoldsNone objects (none_held schemas)) sound.places)

pub none_have_rows : OrderLaw → (roles : List AuthidRow) (databases : List DatabaseRow) (schemas : List NamespaceRow) (entries : List Entry) → toc (alone roles databases schemas) whole ≡ Ok entries → AllByRecursion IsRowless entries
none_have_rows orders roles databases schemas entries e =
    let cat = alone roles databases schemas in
    let is = toc_is cat whole entries e in
    subst (AllByRecursion IsRowless) (sym is.are) (toc_rowless cat is.order (sorted_none roles databases schemas is.order (orders (graph_of cat whole) is.order is.sorts)))
