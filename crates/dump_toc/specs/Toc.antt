-- The table of contents of a dump of what a selection chooses.
-- The objects stand in their order, those of sections that aren't taken left out; behind each the column that owns a sequence,
-- and the comments; and behind all the grants. An entry lists those of the objects that its own needs.
use Rattle.std.specs.Prelude.{ℕ, ◌+◌, List, [], ◌∷◌, ◌++◌, length, map, filter_map, Option, None, Result, Ok, Err, nat_le, if◌then◌else◌}
use Rattle.std.specs.List.{enumerate_from, filter, flat_map, slice_index_or}
use Rattle.std.specs.Option.{option_to_list}
use Rattle.cat_rows.specs.declared.catalogue.Catalogue.{Catalogue}
use Rattle.graph_parts.specs.declared.object.Obj.{Obj}
use Rattle.graph_parts.specs.declared.object.ObjId.{ObjId}
use Rattle.dep_sort.specs.Cut.{is_default}
use Rattle.dep_sort.specs.Ordering.{Sorted, due}
use Rattle.obj_graph.specs.declared.select.Select.{Select}
use Rattle.obj_graph.specs.declared.select.SelectFault.{SelectFault}
use Rattle.obj_graph.specs.Closed.{is_in_sections}
use Rattle.obj_graph.specs.Due.{objects_due}
use Rattle.graph_parts.specs.Parts.{Parts}
use Rattle.toc_entry.specs.declared.entry.Entry.{Entry}
use Rattle.dump_toc.specs.declared.draft.Draft.{Draft}
use Rattle.dump_toc.specs.Comments.{remarks_of, remark_draft}
use Rattle.dump_toc.specs.Drafts.{object_draft, owned_drafts_of}
use Rattle.dump_toc.specs.Numbers.{first_ids, entries_from}
use Rattle.dump_toc.specs.Rights.{rights_draft}
use Rattle.dump_toc.specs.Session.{session_entries}

-- the oids of the defaults that stand alone
abbrev pub standing_of : List Obj → List ℕ
standing_of objects = map (λ o. o.id.oid) (filter (λ o. is_default o.kind) objects)

-- ---- the entries of an object

abbrev pub comment_drafts : Catalogue → Select → Obj → ℕ → List Draft
comment_drafts cat select o place = if select.comments then map (remark_draft cat o place) (remarks_of cat o) else []

-- its own, the column that owns it where it is a sequence, and the comments
abbrev pub drafts_at : Catalogue → Select → List ℕ → Sorted → ℕ → Obj → List Draft
drafts_at cat select standing order place o =
    let needs = slice_index_or order.depends place [] in
    object_draft cat standing o needs ∷ [] ++ option_to_list (owned_drafts_of cat order.objects o needs place o.kind) ++ comment_drafts cat select o place

-- none where its section isn't taken
unfoldable pub taken_at : Catalogue → Select → List ℕ → Sorted → ℕ × Obj → List Draft
taken_at cat select standing order place =
    if is_in_sections select.sections place.1.kind then drafts_at cat select standing order place.0 place.1 else []

-- the objects in their order, with their places
abbrev pub places_of : Sorted → List (ℕ × Obj)
places_of order = enumerate_from 0 order.objects

-- the entries of all objects, and of each how many it has
abbrev pub object_drafts : Catalogue → Select → Sorted → List Draft
object_drafts cat select order = flat_map (taken_at cat select (standing_of order.objects) order) (places_of order)

abbrev pub counts_of : Catalogue → Select → Sorted → List ℕ
counts_of cat select order = map (λ place. length (taken_at cat select (standing_of order.objects) order place)) (places_of order)

-- ---- the grants

unfoldable pub granted_at : Catalogue → Select → ℕ × Obj → Option Draft
granted_at cat select place = if is_in_sections select.sections place.1.kind then rights_draft cat place.1 place.0 else None

abbrev pub grants_of : Catalogue → Select → Sorted → List Draft
grants_of cat select order = if select.grants then filter_map (granted_at cat select) (places_of order) else []

-- ---- the table of contents

abbrev pub drafts_of : Catalogue → Select → Sorted → List Draft
drafts_of cat select order = object_drafts cat select order ++ grants_of cat select order

-- the entries of objects in their order
unfoldable pub toc_of : Catalogue → Select → Sorted → List Entry
toc_of cat select order =
    session_entries cat ++ entries_from (first_ids 5 (counts_of cat select order)) 5 (drafts_of cat select order)

-- Why there is none: a pattern that hits nothing, a loop, or too many entries with their number.
pub data Refusal : Type 0 where
  no_match : SelectFault → Refusal
  looping : List ObjId → Refusal
  too_many : ℕ → Refusal

-- a table of contents has at most 200,000 entries
unfoldable pub counted : Catalogue → Select → Sorted → Result (List Entry) Refusal
counted cat select order =
    if nat_le (length (drafts_of cat select order) + 4) 200000 then Ok (toc_of cat select order)
    else Err (too_many (length (drafts_of cat select order) + 4))

abbrev pub ordered_due : Catalogue → Select → Result Sorted (List ObjId) → Result (List Entry) Refusal
ordered_due cat select (Err path) = Err (looping path)
ordered_due cat select (Ok order) = counted cat select order

abbrev pub graph_due : Catalogue → Select → Result Parts SelectFault → Result (List Entry) Refusal
graph_due cat select (Err fault) = Err (no_match fault)
graph_due cat select (Ok graph) = ordered_due cat select (due graph)

-- what is due of a dump of what a selection chooses
unfoldable pub toc : Catalogue → Select → Result (List Entry) Refusal
toc cat select = graph_due cat select (objects_due cat select)
