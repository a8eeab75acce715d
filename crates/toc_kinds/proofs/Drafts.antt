-- Rows are the data of tables, and no object is the database.
use Rattle.std.proofs.Common.{◌≡◌, ℕ, Bool, true, false, List, [], Option, Some, None, codes, refl, inl, inr}
use Rattle.std.specs.Prelude.{is_some, filter_map, if◌then◌else◌}
use Rattle.std.specs.List.{AllByRecursion, slice_index_or}
use Rattle.std.specs.Option.{option_and_then, option_to_list}
use Rattle.std.proofs.lemmas.Bool.{cases_Bool}
use Rattle.cat_rows.specs.declared.catalogue.Catalogue.{Catalogue}
use Rattle.cat_rows.specs.declared.types.TypeRow.{TypeRow}
use Rattle.cat_book.specs.Chains.{type_of, is_domain_letter}
use Rattle.entry_choices.specs.Kinds.{is_one_of, database_kinds}
use Rattle.graph_parts.specs.declared.object.Obj.{Obj}
use Rattle.graph_parts.specs.declared.object.ObjKind.{ObjKind}
use Rattle.graph_parts.specs.declared.object.ObjKind.TheVariants as kind
use Rattle.obj_graph.specs.declared.select.Select.{Select}
use Rattle.obj_graph.specs.Closed.{is_in_sections}
use Rattle.dep_sort.specs.Ordering.{Sorted}
use Rattle.dump_grants.specs.Stmts.{grant_stmts}
use Rattle.dump_stmts.specs.Paths.{written}
use Rattle.dump_stmts.specs.Sequences.{owned_stmt}
use Rattle.dump_toc.specs.declared.draft.Draft.{Draft}
use Rattle.dump_toc.specs.Comments.{remarks_of, remark_draft}
use Rattle.dump_toc.specs.Drafts.{copy_of_kind, object_draft, owned_with, owned_drafts_of}
use Rattle.dump_toc.specs.Owners.{owner_of}
use Rattle.dump_toc.specs.Rights.{granted_as, grant_kind, acl_of, grants_draft, granted_draft, rights_draft}
use Rattle.dump_toc.specs.Tags.{type_desc, desc_of_kind, desc_of}
use Rattle.dump_toc.specs.Toc.{standing_of, comment_drafts, drafts_at, taken_at, places_of, object_drafts, granted_at, grants_of, drafts_of}
use Rattle.toc_kinds.proofs.Lists.{Known, known_map, known_then, listed, both, mapped, joined, chosen}

pub record IsOfObject (d : Draft) : Type 0 where
  pub rows : is_some d.copy_stmt ≡ true → d.desc ≡ codes "TABLE DATA"
  pub object : is_one_of database_kinds d.desc ≡ false

abbrev pub AreOfObjects : List Draft → Type 0
AreOfObjects ds = AllByRecursion IsOfObject ds

-- ---- an object

of_rows : (cat : Catalogue) (o : Obj) (k : ObjKind) → is_some (copy_of_kind cat o k) ≡ true → desc_of_kind cat o k ≡ codes "TABLE DATA"
of_rows cat o kind.TableData e = refl
of_rows cat o other e = absurd cc

type_none : (r : Option TypeRow) → is_one_of database_kinds (type_desc r) ≡ false
type_none None = refl
type_none (Some row) = elim (cases_Bool (is_domain_letter row.typtype)) [ inl is ↦ rw is refl | inr isnt ↦ rw isnt refl ]

no_database : (cat : Catalogue) (o : Obj) (k : ObjKind) → is_one_of database_kinds (desc_of_kind cat o k) ≡ false
no_database cat o kind.UserType = type_none (type_of cat.pg_type o.id.oid)
no_database cat o other = refl

object_is : (cat : Catalogue) (standing : List ℕ) (o : Obj) (needs : List ℕ) → IsOfObject (object_draft cat standing o needs)
unfolding object_draft desc_of
object_is cat standing o needs = record { rows = of_rows cat o o.kind; object = no_database cat o o.kind }

-- ---- what stands beside it

owned_is : (cat : Catalogue) (objects : List Obj) (o : Obj) (needs : List ℕ) (place : ℕ) (k : ObjKind) → Known IsOfObject (owned_drafts_of cat objects o needs place k)
owned_is cat objects o needs place kind.Sequence = known_map IsOfObject (λ s. owned_with cat objects o needs place (written (Some s))) (λ s. record { rows = λ e. absurd cc; object = refl }) (owned_stmt cat o)
owned_is cat objects o needs place other = tt

comments_are : (cat : Catalogue) (select : Select) (o : Obj) (place : ℕ) → AreOfObjects (comment_drafts cat select o place)
comments_are cat select o place = elim (cases_Bool select.comments) [
  | inl is ↦ rw is (mapped IsOfObject (remark_draft cat o place) (λ r. record { rows = λ e. absurd cc; object = refl }) (remarks_of cat o))
  | inr isnt ↦ rw isnt tt
]

taken_are : (cat : Catalogue) (select : Select) (standing : List ℕ) (order : Sorted) (place : ℕ × Obj) → AreOfObjects (taken_at cat select standing order place)
unfolding taken_at
taken_are cat select standing order place =
    let o = place.1 in
    let needs = slice_index_or order.depends place.0 [] in
    let owned = owned_drafts_of cat order.objects o needs place.0 o.kind in
    let all : AreOfObjects (drafts_at cat select standing order place.0 o) = (object_is cat standing o needs, both IsOfObject (option_to_list owned) (comment_drafts cat select o place.0) (listed IsOfObject owned (owned_is cat order.objects o needs place.0 o.kind)) (comments_are cat select o place.0)) in
    elim (cases_Bool (is_in_sections select.sections o.kind)) [ inl is ↦ rw is all | inr isnt ↦ rw isnt tt ]

granted_is : (cat : Catalogue) (select : Select) (place : ℕ × Obj) → Known IsOfObject (granted_at cat select place)
unfolding granted_at rights_draft
granted_is cat select place =
    let o = place.1 in
    let all =
    known_then IsOfObject (λ acl. option_and_then (λ owner. option_and_then (granted_draft cat o place.0 owner acl) (granted_as o o.kind)) (owner_of cat o))
    (λ acl. known_then IsOfObject (λ owner. option_and_then (granted_draft cat o place.0 owner acl) (granted_as o o.kind))
    (λ owner. known_then IsOfObject (granted_draft cat o place.0 owner acl)
    (λ what. known_map IsOfObject (grants_draft cat o place.0 what) (λ ss. record { rows = λ e. absurd cc; object = refl }) (grant_stmts (grant_kind o.kind) what owner acl)) (granted_as o o.kind)) (owner_of cat o)) (acl_of cat o o.kind) in
    elim (cases_Bool (is_in_sections select.sections o.kind)) [ inl is ↦ rw is all | inr isnt ↦ rw isnt tt ]

if_taken : (b : Bool) (ds : List Draft) → AreOfObjects ds → AreOfObjects (if b then ds else [])
if_taken true ds all = all
if_taken false ds all = tt

grants_are : (cat : Catalogue) (select : Select) (order : Sorted) → AreOfObjects (grants_of cat select order)
grants_are cat select order = if_taken select.grants (filter_map (granted_at cat select) (places_of order)) (chosen IsOfObject (granted_at cat select) (granted_is cat select) (places_of order))

pub all_are : (cat : Catalogue) (select : Select) (order : Sorted) → AreOfObjects (drafts_of cat select order)
all_are cat select order =
    both IsOfObject (object_drafts cat select order) (grants_of cat select order)
    (joined IsOfObject (taken_at cat select (standing_of order.objects) order) (taken_are cat select (standing_of order.objects) order) (places_of order))
    (grants_are cat select order)
