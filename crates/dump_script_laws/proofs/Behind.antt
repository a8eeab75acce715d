-- Each entry of a dump stands behind those that it lists.
use Rattle.std.proofs.Common.{◌≡◌, ◌⊎◌, ℕ, suc, ◌+◌, ◌<◌, ◌≤◌, Bool, true, false, cond, List, [], ◌∷◌, ◌++◌, map, length, length-append, append_assoc, Option, Some, None, Ok, refl, sym, ap, subst, ◌∙◌, arith, inl, inr}
use Rattle.std.specs.Prelude.{◌==◌, All, filter_map}
use Rattle.std.specs.List.{AllByRecursion, cons_option, Contains, filter, flat_map, enumerate_from, slice_get, slice_index_or}
use Rattle.std.specs.Option.{option_and_then, option_map, option_to_list}
use Rattle.std.proofs.lemmas.Bool.{cases_Bool, cases_lt, ne_eqb}
use Rattle.std.proofs.lemmas.Bool.Decides.{nat_tests}
use Rattle.std.proofs.lemmas.List.Elements.{All-from_recursion, recursion_from_All}
use Rattle.cat_rows.specs.declared.catalogue.Catalogue.{Catalogue}
use Rattle.cat_rows.specs.declared.roles.DatabaseRow.{DatabaseRow}
use Rattle.dep_sort.specs.Ordering.{Sorted, due}
use Rattle.graph_parts.specs.declared.object.Obj.{Obj}
use Rattle.graph_parts.specs.declared.object.ObjKind.{ObjKind}
use Rattle.graph_parts.specs.declared.object.ObjKind.TheVariants as kind
use Rattle.graph_parts.specs.Parts.{Parts}
use Rattle.obj_graph.specs.Closed.{is_in_sections}
use Rattle.obj_graph.specs.declared.select.Select.{Select}
use Rattle.obj_graph.specs.Graphs.{graph_of}
use Rattle.toc_entry.specs.declared.entry.Entry.{Entry}
use Rattle.dump_grants.specs.Stmts.{grant_stmts}
use Rattle.dump_stmts.specs.Paths.{written}
use Rattle.dump_stmts.specs.Sequences.{owned_stmt}
use Rattle.dump_toc.specs.declared.draft.Draft.{Draft}
use Rattle.dump_toc.specs.Comments.{remarks_of, remark_draft}
use Rattle.dump_toc.specs.Drafts.{object_draft, is_relation, owner_table, owner_needs, owned_with, owned_drafts_of}
use Rattle.dump_toc.specs.Numbers.{first_of, first_ids, id_at, ids_at, entry_of, entries_from}
use Rattle.dump_toc.specs.Owners.{owner_of}
use Rattle.dump_toc.specs.Rights.{granted_as, grant_kind, acl_of, grants_draft, granted_draft, rights_draft}
use Rattle.dump_toc.specs.Session.{database_entry, current_database, session_entries}
use Rattle.dump_toc.specs.Toc.{standing_of, comment_drafts, drafts_at, taken_at, places_of, object_drafts, counts_of, granted_at, grants_of, drafts_of, toc_of, toc}
use Rattle.stmt_laws.proofs.Lists.{Known, known_so, kept_have, chosen_have}
use Rattle.toc_laws.proofs.Remarks.{both_have}
use Rattle.dump_script_laws.specs.Behind.{AreBehind}
use Rattle.dump_script_laws.proofs.Lists.{any_then, any_map, any_seen}
use Rattle.dump_script_laws.proofs.Orders.{toc_is}

-- ---- elements of a list

abbrev In : {A : Type 0} → A → List A → Type 0
In x [] = ⊥
In x (y ∷ ys) = (y ≡ x) ⊎ In x ys

contained : {A : Type 0} (x : A) (xs : List A) → In x xs → Contains xs x
contained x [] h = absurd h
contained x (y ∷ ys) (inl e) = (0, omega arith, e)
contained x (y ∷ ys) (inr later) = let c = contained x ys later in (suc c.0, omega (arith, c.1), c.2)

all_contained : {A : Type 0} (ys : List A) (xs : List A) → AllByRecursion (λ x. In x ys) xs → AllByRecursion (λ x. Contains ys x) xs
all_contained ys [] all = tt
all_contained ys (x ∷ xs) all = (contained x ys all.0, all_contained ys xs all.1)

-- ---- the numbers of objects

-- each object before a place that has entries has a number from 5 up to below another
abbrev AreKnown : List (Option ℕ) → ℕ → ℕ → Type 0
AreKnown ids place next = (q id : ℕ) → q < place → id_at ids q ≡ Some id → (5 ≤ id) × (id < next)

-- numbers from 5 up to below another
abbrev AreBelow : ℕ → List ℕ → Type 0
AreBelow next ids = AllByRecursion (λ id. (5 ≤ id) × (id < next)) ids

abbrev Rise : List (Option ℕ) → ℕ → List Draft → Type 0
Rise ids next [] = Unit {0}
Rise ids next (d ∷ ds) = AreBelow next (ids_at ids d.needs) × Rise ids (next + 1) ds

both_rise : (ids : List (Option ℕ)) (next : ℕ) (xs ys : List Draft) → Rise ids next xs → Rise ids (next + length xs) ys → Rise ids next (xs ++ ys)
both_rise ids next [] ys h k = subst (λ (n : ℕ). Rise ids n ys) (let e : next + 0 ≡ next = omega arith in e) k
both_rise ids next (d ∷ xs) ys h k = (h.0, both_rise ids (next + 1) xs ys h.1 (subst (λ (n : ℕ). Rise ids n ys) (let e : next + length (d ∷ xs) ≡ next + 1 + length xs = omega arith in e) k))

-- what needs objects before a place
abbrev Needs : ℕ → Draft → Type 0
Needs place d = AllByRecursion (λ q. q < place) d.needs

are_below : (ids : List (Option ℕ)) (place start next : ℕ) → AreKnown ids place start → start ≤ next → (needs : List ℕ) → AllByRecursion (λ q. q < place) needs → AreBelow next (ids_at ids needs)
are_below ids place start next known le needs all =
    chosen_have (λ q. q < place) (λ id. (5 ≤ id) × (id < next)) (id_at ids) needs all
    (λ q lt. known_so (λ id. (5 ≤ id) × (id < next)) (id_at ids q) (λ id e. let k = known q id lt e in (k.0, omega (arith, k.1))))

all_rise : (ids : List (Option ℕ)) (place start next : ℕ) → AreKnown ids place start → start ≤ next → (ds : List Draft) → AllByRecursion (Needs place) ds → Rise ids next ds
all_rise ids place start next known le [] all = tt
all_rise ids place start next known le (d ∷ ds) all = (are_below ids place start next known le d.needs all.0, all_rise ids place start (next + 1) known (omega arith) ds all.1)

-- one more object
one_known : (ids : List (Option ℕ)) (place start count next : ℕ) → 5 ≤ start → AreKnown ids place start → id_at ids place ≡ first_of start count → start ≤ next → ((count == 0) ≡ false → start < next) → AreKnown ids (place + 1) next
one_known ids place start count next five known here le more q id lt e = by_place (cases_lt q place)
  where
    by_count : (b : Bool) → (count == 0) ≡ b → cond {A = Option ℕ} b None (Some start) ≡ Some id → (5 ≤ id) × (id < next)
    by_count true is f = absurd cc
    by_count false is f = let same : start ≡ id = cc f in let lt = more is in (omega (arith, same), omega (arith, same, lt))

    by_place : (q < place) ⊎ (place ≤ q) → (5 ≤ id) × (id < next)
    by_place (inl below) = let k = known q id below e in (k.0, omega (arith, k.1))
    by_place (inr above) = let same : q ≡ place = omega arith in by_count (count == 0) refl (sym here ∙ ap (id_at ids) (sym same) ∙ e)

-- ---- the entries of an object

weaker : (place : ℕ) (ns : List ℕ) → AllByRecursion (λ q. q < place) ns → AllByRecursion (λ q. q < place + 1) ns
weaker place [] all = tt
weaker place (n ∷ ns) all = (omega (arith, all.0), weaker place ns all.1)

owner_have : (cat : Catalogue) (objects : List Obj) (o : Obj) (needs : List ℕ) (place : ℕ) → AllByRecursion (λ q. q < place) needs → AllByRecursion (λ q. q < place + 1) (owner_needs objects needs (owner_table cat o.id.oid) place)
owner_have cat objects o needs place all =
    let table = owner_table cat o.id.oid in
    both_have (λ q. q < place + 1) (filter (is_relation objects table) needs) (place ∷ [])
    (kept_have (λ q. q < place + 1) (is_relation objects table) needs (weaker place needs all)) (omega arith, tt)

owned_need : (cat : Catalogue) (objects : List Obj) (o : Obj) (needs : List ℕ) (place : ℕ) → AllByRecursion (λ q. q < place) needs → (k : ObjKind) → AllByRecursion (Needs (place + 1)) (option_to_list (owned_drafts_of cat objects o needs place k))
owned_need cat objects o needs place all kind.Sequence = listed (option_map (λ s. owned_with cat objects o needs place (written (Some s))) (owned_stmt cat o)) (any_map (Needs (place + 1)) (λ s. owned_with cat objects o needs place (written (Some s))) (λ s. owner_have cat objects o needs place all) (owned_stmt cat o))
  where
    listed : (d : Option Draft) → Known (Needs (place + 1)) d → AllByRecursion (Needs (place + 1)) (option_to_list d)
    listed None k = tt
    listed (Some d) k = (k, tt)
owned_need cat objects o needs place all other = tt

comments_need : (cat : Catalogue) (select : Select) (o : Obj) (place : ℕ) → AllByRecursion (Needs (place + 1)) (comment_drafts cat select o place)
comments_need cat select o place = elim (cases_Bool select.comments) [
  | inl is ↦ rw is (any_seen (Needs (place + 1)) (remark_draft cat o place) (λ r. (omega arith, tt)) (remarks_of cat o))
  | inr isnt ↦ rw isnt tt
]

-- the places that objects need stand before theirs
abbrev StandBefore : Sorted → Type 0
StandBefore order = (i : ℕ) → i < length order.objects → AllByRecursion (λ at. at < i) (slice_index_or order.depends i [])

drafts_rise : (cat : Catalogue) (select : Select) (standing : List ℕ) (order : Sorted) (ids : List (Option ℕ)) (place start : ℕ) (o : Obj) → AllByRecursion (λ at. at < place) (slice_index_or order.depends place []) → 5 ≤ start → AreKnown ids place start
    → id_at ids place ≡ Some start → Rise ids start (drafts_at cat select standing order place o)
unfolding object_draft
drafts_rise cat select standing order ids place start o before five known here =
    let needs = slice_index_or order.depends place [] in
    let later = one_known ids place start 1 (start + 1) five known here (omega arith) (λ e. omega arith) in (
      are_below ids place start start known (omega arith) needs before,
      all_rise ids (place + 1) (start + 1) (start + 1) later (omega arith) (option_to_list (owned_drafts_of cat order.objects o needs place o.kind) ++ comment_drafts cat select o place)
          (both_have (Needs (place + 1)) (option_to_list (owned_drafts_of cat order.objects o needs place o.kind)) (comment_drafts cat select o place) (owned_need cat order.objects o needs place before o.kind) (comments_need cat select o place)),
    )

-- what has an entry has a number
some_first : (start more : ℕ) → first_of start (suc more) ≡ Some start
some_first start more = let none : (suc more == 0) ≡ false = ne_eqb (suc more) 0 (λ e. omega arith) in rw none refl

taken_rise : (cat : Catalogue) (select : Select) (standing : List ℕ) (order : Sorted) (ids : List (Option ℕ)) (place start : ℕ) (o : Obj) → AllByRecursion (λ at. at < place) (slice_index_or order.depends place []) → 5 ≤ start → AreKnown ids place start
    → id_at ids place ≡ first_of start (length (taken_at cat select standing order (place, o))) → Rise ids start (taken_at cat select standing order (place, o))
unfolding taken_at
taken_rise cat select standing order ids place start o before five known = by (is_in_sections select.sections o.kind)
  where
    by : (b : Bool) → id_at ids place ≡ first_of start (length (cond b (drafts_at cat select standing order place o) [])) → Rise ids start (cond b (drafts_at cat select standing order place o) [])
    by true here =
        let needs = slice_index_or order.depends place [] in
        let more = option_to_list (owned_drafts_of cat order.objects o needs place o.kind) ++ comment_drafts cat select o place in
        drafts_rise cat select standing order ids place start o before five known (here ∙ some_first start (length more))
    by false here = tt

-- ---- all objects

at_front : {A : Type 0} (xs : List A) (x : A) (ys : List A) → slice_get (xs ++ x ∷ ys) (length xs) ≡ Some x
at_front [] x ys = refl
at_front (z ∷ xs) x ys = at_front xs x ys

-- the numbers of the first entries of objects from a place on, behind those before
record AreNumbered (ids : List (Option ℕ)) (place start : ℕ) (counts : List ℕ) : Type 0 where
  front : List (Option ℕ)
  long : length front ≡ place
  are : ids ≡ front ++ first_ids start counts

first_number : (ids : List (Option ℕ)) (place start count : ℕ) (counts : List ℕ) → AreNumbered ids place start (count ∷ counts) → id_at ids place ≡ first_of start count
unfolding first_ids
first_number ids place start count counts n =
    ap (λ (x : List (Option ℕ)). id_at x place) n.are ∙ ap (id_at (n.front ++ first_of start count ∷ first_ids (start + count) counts)) (sym n.long)
    ∙ ap (λ (x : Option (Option ℕ)). option_and_then (λ id. id) x) (at_front n.front (first_of start count) (first_ids (start + count) counts))

next_numbers : (ids : List (Option ℕ)) (place start count : ℕ) (counts : List ℕ) → AreNumbered ids place start (count ∷ counts) → AreNumbered ids (place + 1) (start + count) counts
unfolding first_ids
next_numbers ids place start count counts n = record {
  front = n.front ++ first_of start count ∷ [];
  long = length-append n.front (first_of start count ∷ []) ∙ ap (λ (k : ℕ). k + 1) n.long;
  are = n.are ∙ sym (append_assoc n.front (first_of start count ∷ []) (first_ids (start + count) counts));
}

abbrev taken : Catalogue → Select → Sorted → ℕ × Obj → List Draft
taken cat select order = taken_at cat select (standing_of order.objects) order

record Risen (ids : List (Option ℕ)) (place start : ℕ) (ds : List Draft) (count : ℕ) : Type 0 where
  rise : Rise ids start ds
  known : AreKnown ids (place + count) (start + length ds)

objects_rise : (cat : Catalogue) (select : Select) (order : Sorted) (ids : List (Option ℕ)) → StandBefore order → (place start : ℕ) (os : List Obj) → 5 ≤ start → AreKnown ids place start → place + length os ≤ length order.objects
    → AreNumbered ids place start (map (λ p. length (taken cat select order p)) (enumerate_from place os)) → Risen ids place start (flat_map (taken cat select order) (enumerate_from place os)) (length os)
objects_rise cat select order ids before place start [] five known le numbers = record {
  rise = tt;
  known = subst (λ (n : ℕ). AreKnown ids n (start + 0)) (let e : place ≡ place + 0 = omega arith in e) (subst (AreKnown ids place) (let e : start ≡ start + 0 = omega arith in e) known);
}
objects_rise cat select order ids before place start (o ∷ os) five known le numbers =
    let standing = standing_of order.objects in
    let mine = taken cat select order (place, o) in
    let count = length mine in
    let counts = map (λ p. length (taken cat select order p)) (enumerate_from (place + 1) os) in
    let more = flat_map (taken cat select order) (enumerate_from (place + 1) os) in
    let here = first_number ids place start count counts numbers in
    let next = one_known ids place start count (start + count) five known here (omega arith) (λ e. some count e) in
    let later = objects_rise cat select order ids before (place + 1) (start + count) os (omega arith) next (omega arith) (next_numbers ids place start count counts numbers) in
    let size = length-append mine more in
    record {
      rise = both_rise ids start mine more (taken_rise cat select standing order ids place start o (before place (omega arith)) five known here) later.rise;
      known = subst (λ (n : ℕ). AreKnown ids n (start + length (mine ++ more))) (let e : place + 1 + length os ≡ place + length (o ∷ os) = omega arith in e)
          (subst (AreKnown ids (place + 1 + length os)) (let e : start + count + length more ≡ start + length (mine ++ more) = omega (arith, size) in e) later.known);
    }
  where
    some : (n : ℕ) → (n == 0) ≡ false → start < start + n
    some n e = grind (arith, nat_tests)

-- ---- grants

granted_need : (cat : Catalogue) (select : Select) (total place : ℕ) (o : Obj) → place < total → Known (Needs total) (granted_at cat select (place, o))
unfolding granted_at rights_draft
granted_need cat select total place o lt = by (is_in_sections select.sections o.kind)
  where
    of_acl : Known (Needs total) (option_and_then (λ acl. option_and_then (λ owner. option_and_then (granted_draft cat o place owner acl) (granted_as o o.kind)) (owner_of cat o)) (acl_of cat o o.kind))
    of_acl =
        any_then (Needs total) (λ acl. option_and_then (λ owner. option_and_then (granted_draft cat o place owner acl) (granted_as o o.kind)) (owner_of cat o))
        (λ acl. any_then (Needs total) (λ owner. option_and_then (granted_draft cat o place owner acl) (granted_as o o.kind))
        (λ owner. any_then (Needs total) (granted_draft cat o place owner acl)
        (λ what. any_map (Needs total) (grants_draft cat o place what) (λ ss. (lt, tt)) (grant_stmts (grant_kind o.kind) what owner acl)) (granted_as o o.kind)) (owner_of cat o)) (acl_of cat o o.kind)

    by : (b : Bool) → Known (Needs total) (cond b (option_and_then (λ acl. option_and_then (λ owner. option_and_then (granted_draft cat o place owner acl) (granted_as o o.kind)) (owner_of cat o)) (acl_of cat o o.kind)) None)
    by true = of_acl
    by false = tt

more_need : (total : ℕ) (d : Option Draft) (ds : List Draft) → Known (Needs total) d → AllByRecursion (Needs total) ds → AllByRecursion (Needs total) (cons_option d ds)
more_need total None ds k all = all
more_need total (Some d) ds k all = (k, all)

all_need : (cat : Catalogue) (select : Select) (total place : ℕ) (os : List Obj) → place + length os ≤ total → AllByRecursion (Needs total) (filter_map (granted_at cat select) (enumerate_from place os))
all_need cat select total place [] le = tt
all_need cat select total place (o ∷ os) le =
    more_need total (granted_at cat select (place, o)) (filter_map (granted_at cat select) (enumerate_from (place + 1) os)) (granted_need cat select total place o (omega arith)) (all_need cat select total (place + 1) os (omega arith))

grants_need : (cat : Catalogue) (select : Select) (order : Sorted) → AllByRecursion (Needs (length order.objects)) (grants_of cat select order)
grants_need cat select order = by select.grants
  where
    by : (b : Bool) → AllByRecursion (Needs (length order.objects)) (cond b (filter_map (granted_at cat select) (places_of order)) [])
    by true = all_need cat select (length order.objects) 0 order.objects (omega arith)
    by false = tt

drafts_all_rise : (cat : Catalogue) (select : Select) (order : Sorted) → StandBefore order → Rise (first_ids 5 (counts_of cat select order)) 5 (drafts_of cat select order)
drafts_all_rise cat select order before =
    let ids = first_ids 5 (counts_of cat select order) in
    let objects = object_drafts cat select order in
    let risen = objects_rise cat select order ids before 0 5 order.objects (omega arith) (λ q id lt e. absurd (omega arith)) (omega arith) (record { front = []; long = refl; are = refl }) in
    both_rise ids 5 objects (grants_of cat select order) risen.rise
    (all_rise ids (0 + length order.objects) (5 + length objects) (5 + length objects) risen.known (omega arith) (grants_of cat select order)
    (subst (λ (n : ℕ). AllByRecursion (Needs n) (grants_of cat select order)) (let e : length order.objects ≡ 0 + length order.objects = omega arith in e) (grants_need cat select order)))

-- ---- entries

abbrev numbers_of : List Entry → List ℕ
numbers_of es = map (λ e. e.dump_id) es

lists_below : (ids : List (Option ℕ)) (next : ℕ) (ds : List Draft) → Rise ids next ds → (before behind : List Entry) (e : Entry) → entries_from ids next ds ≡ before ++ e ∷ behind → AreBelow (next + length before) e.depends
unfolding entries_from
lists_below ids next [] rise [] behind e same = absurd cc
lists_below ids next [] rise (x ∷ before) behind e same = absurd cc
lists_below ids next (d ∷ ds) rise [] behind e same =
    let here : entry_of ids next d ≡ e = cc same in
    subst (λ (n : ℕ). AreBelow n e.depends) (let k : next ≡ next + 0 = omega arith in k) (subst (λ (x : Entry). AreBelow next x.depends) here rise.0)
lists_below ids next (d ∷ ds) rise (x ∷ before) behind e same =
    let later : entries_from ids (next + 1) ds ≡ before ++ e ∷ behind = cc same in
    subst (λ (n : ℕ). AreBelow n e.depends) (let k : next + 1 + length before ≡ next + length (x ∷ before) = omega arith in k) (lists_below ids (next + 1) ds rise.1 before behind e later)

numbered_in : (ids : List (Option ℕ)) (next : ℕ) (ds : List Draft) (before behind : List Entry) (e : Entry) → entries_from ids next ds ≡ before ++ e ∷ behind → (id : ℕ) → next ≤ id → id < next + length before → In id (numbers_of before)
unfolding entries_from
numbered_in ids next ds [] behind e same id low high = absurd (omega arith)
numbered_in ids next [] (x ∷ before) behind e same id low high = absurd cc
numbered_in ids next (d ∷ ds) (x ∷ before) behind e same id low high =
    let here : entry_of ids next d ≡ x = cc same in
    let later : entries_from ids (next + 1) ds ≡ before ++ e ∷ behind = cc same in
    let number : next ≡ x.dump_id = ap (λ (y : Entry). y.dump_id) here in
    by number (cases_lt next id) (λ above. numbered_in ids (next + 1) ds before behind e later id (omega arith) (omega arith))
  where
    by : next ≡ x.dump_id → (next < id) ⊎ (id ≤ next) → (next < id → In id (numbers_of before)) → In id (numbers_of (x ∷ before))
    by number (inl above) more = inr (more above)
    by number (inr under) more = inl (omega arith)

all_in : (ids : List (Option ℕ)) (ds : List Draft) (before behind : List Entry) (e : Entry) → entries_from ids 5 ds ≡ before ++ e ∷ behind → (ns : List ℕ) → AreBelow (5 + length before) ns → AllByRecursion (λ id. In id (numbers_of before)) ns
all_in ids ds before behind e same [] all = tt
all_in ids ds before behind e same (n ∷ ns) all = let h = all.0 in (numbered_in ids 5 ds before behind e same n h.0 h.1, all_in ids ds before behind e same ns all.1)

-- each entry lists those before it alone
abbrev ListBefore : List Entry → Type 0
ListBefore entries = (before behind : List Entry) (e : Entry) → entries ≡ before ++ e ∷ behind → AllByRecursion (λ id. In id (numbers_of before)) e.depends

in_more : (x : Entry) (before : List Entry) (ns : List ℕ) → AllByRecursion (λ id. In id (numbers_of before)) ns → AllByRecursion (λ id. In id (numbers_of (x ∷ before))) ns
in_more x before [] all = tt
in_more x before (n ∷ ns) all = (inr all.0, in_more x before ns all.1)

behind_free : (es rest : List Entry) → AllByRecursion (λ e. e.depends ≡ []) es → ListBefore rest → ListBefore (es ++ rest)
behind_free [] rest free lists before behind e same = lists before behind e same
behind_free (x ∷ es) rest free lists [] behind e same =
    let here : x ≡ e = cc same in
    subst (λ (ns : List ℕ). AllByRecursion (λ id. In id []) ns) (sym (ap (λ (y : Entry). y.depends) (sym here) ∙ free.0)) tt
behind_free (x ∷ es) rest free lists (y ∷ before) behind e same =
    let later : es ++ rest ≡ before ++ e ∷ behind = cc same in
    in_more y before e.depends (behind_free es rest free.1 lists before behind e later)

session_free : (cat : Catalogue) → AllByRecursion (λ e. e.depends ≡ []) (session_entries cat)
unfolding session_entries
session_free cat = (refl, (refl, (refl, by (current_database cat))))
  where
    by : (d : Option DatabaseRow) → AllByRecursion (λ e. e.depends ≡ []) (option_to_list (option_map (database_entry cat) d))
    by None = tt
    by (Some d) = (refl, tt)

toc_lists : (cat : Catalogue) (select : Select) (order : Sorted) → StandBefore order → ListBefore (toc_of cat select order)
unfolding toc_of
toc_lists cat select order before =
    let ids = first_ids 5 (counts_of cat select order) in
    let ds = drafts_of cat select order in
    behind_free (session_entries cat) (entries_from ids 5 ds) (session_free cat) (λ front behind e same. all_in ids ds front behind e same e.depends (lists_below ids 5 ds (drafts_all_rise cat select order before) front behind e same))

abbrev pub NeedLaw : Type 0
NeedLaw = (graph : Parts) (order : Sorted) → due graph ≡ Ok order → (i : ℕ) → i < length order.objects → All (λ at. at < i) (slice_index_or order.depends i [])

pub are_behind : NeedLaw → (cat : Catalogue) (select : Select) (entries : List Entry) → toc cat select ≡ Ok entries → AreBehind entries
are_behind law cat select entries is before behind e same =
    let t = toc_is cat select entries is in
    let stand : StandBefore t.order = λ i lt. recursion_from_All (λ at. at < i) (slice_index_or t.order.depends i []) (law (graph_of cat select) t.order t.sorts i lt) in
    All-from_recursion (λ id. Contains (numbers_of before) id) e.depends (all_contained (numbers_of before) e.depends (toc_lists cat select t.order stand before behind e (sym t.are ∙ same)))
