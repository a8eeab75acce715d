-- The entries of a table of contents, with their numbers.
use Rattle.std.proofs.Common.{◌≡◌, ℕ, ◌+◌, ◌≤◌, ◌==◌, Bool, true, false, List, [], ◌∷◌, Option, Some, None, Result, Ok, Err, sym, subst, ◌∙◌, arith, cond}
use Rattle.std.specs.Prelude.{nat_le, length}
use Rattle.std.specs.List.{AllByRecursion, slice_get}
use Rattle.std.specs.Option.{option_and_then, option_map}
use Rattle.std.proofs.lemmas.Bool.{false≢true}
use Rattle.cat_rows.specs.declared.catalogue.Catalogue.{Catalogue}
use Rattle.graph_parts.specs.declared.object.ObjId.{ObjId}
use Rattle.graph_parts.specs.Parts.{Parts}
use Rattle.obj_graph.specs.declared.select.Select.{Select}
use Rattle.obj_graph.specs.declared.select.SelectFault.{SelectFault}
use Rattle.obj_graph.specs.Due.{objects_due}
use Rattle.dep_sort.specs.Ordering.{Sorted, due}
use Rattle.toc_entry.specs.declared.entry.Entry.{Entry}
use Rattle.dump_toc.specs.declared.draft.Draft.{Draft}
use Rattle.dump_toc.specs.Numbers.{first_of, first_ids, id_at, ids_at, entries_from}
use Rattle.dump_toc.specs.Session.{database_entry, current_database, session_entries}
use Rattle.dump_toc.specs.Toc.{Refusal, too_many, counts_of, drafts_of, toc_of, counted, ordered_due, graph_due, toc}
use Rattle.toc_kinds.proofs.Lists.{Known, known_map, listed, both, chosen, at_place}
use Rattle.toc_kinds.specs.Kinds.{IsOfDump}
use Rattle.toc_kinds.proofs.Drafts.{AreOfObjects, all_are}

-- ---- the numbers of objects

first_high : (next count : ℕ) → 5 ≤ next → Known (λ id. 5 ≤ id) (first_of next count)
first_high next count five = by (count == 0)
  where
    by : (b : Bool) → Known (λ id. 5 ≤ id) (cond b None (Some next))
    by true = tt
    by false = five

ids_high : (next : ℕ) (counts : List ℕ) → 5 ≤ next → AllByRecursion (Known (λ id. 5 ≤ id)) (first_ids next counts)
unfolding first_ids
ids_high next [] five = tt
ids_high next (count ∷ counts) five = (first_high next count five, ids_high (next + count) counts (omega (arith, five)))

needs_high : (ids : List (Option ℕ)) → AllByRecursion (Known (λ id. 5 ≤ id)) ids → (needs : List ℕ) → AllByRecursion (λ id. 5 ≤ id) (ids_at ids needs)
needs_high ids high needs = chosen (λ id. 5 ≤ id) (id_at ids) (λ place. by (slice_get ids place) (at_place (Known (λ id. 5 ≤ id)) ids high place)) needs
  where
    by : (o : Option (Option ℕ)) → Known (Known (λ id. 5 ≤ id)) o → Known (λ id. 5 ≤ id) (option_and_then (λ id. id) o)
    by None k = tt
    by (Some id) k = k

-- ---- entries

numbered : (ids : List (Option ℕ)) (next : ℕ) (ds : List Draft) → AllByRecursion (Known (λ id. 5 ≤ id)) ids → AreOfObjects ds → AllByRecursion IsOfDump (entries_from ids next ds)
unfolding entries_from
numbered ids next [] high all = tt
numbered ids next (d ∷ ds) high all = (
  record { rows = all.0.rows; needs = needs_high ids high d.needs; database = λ is. absurd (false≢true (sym all.0.object ∙ is)) },
  numbered ids (next + 1) ds high all.1,
)

session_are : (cat : Catalogue) → AllByRecursion IsOfDump (session_entries cat)
unfolding session_entries
session_are cat = (
  record { rows = λ e. absurd cc; needs = tt; database = λ e. omega arith },
  (
    record { rows = λ e. absurd cc; needs = tt; database = λ e. omega arith },
    (
      record { rows = λ e. absurd cc; needs = tt; database = λ e. omega arith },
      listed IsOfDump (option_map (database_entry cat) (current_database cat)) (known_map IsOfDump (database_entry cat) (λ d. record { rows = λ e. absurd cc; needs = tt; database = λ e. omega arith }) (current_database cat)),
    ),
  ),
)

of_order : (cat : Catalogue) (select : Select) (order : Sorted) → AllByRecursion IsOfDump (toc_of cat select order)
unfolding toc_of
of_order cat select order =
    let ids = first_ids 5 (counts_of cat select order) in
    both IsOfDump (session_entries cat) (entries_from ids 5 (drafts_of cat select order)) (session_are cat)
    (numbered ids 5 (drafts_of cat select order) (ids_high 5 (counts_of cat select order) (omega arith)) (all_are cat select order))

-- ---- the table of contents

counted_by : (b : Bool) (entries all : List Entry) (why : Refusal) → AllByRecursion IsOfDump all → cond {A = Result (List Entry) Refusal} b (Ok all) (Err why) ≡ Ok entries → AllByRecursion IsOfDump entries
counted_by true entries all why are e = let same : all ≡ entries = cc in subst (AllByRecursion IsOfDump) same are
counted_by false entries all why are e = absurd cc

counted_are : (cat : Catalogue) (select : Select) (order : Sorted) (entries : List Entry) → counted cat select order ≡ Ok entries → AllByRecursion IsOfDump entries
unfolding counted
counted_are cat select order entries e =
    counted_by (nat_le (length (drafts_of cat select order) + 4) 200000) entries (toc_of cat select order) (too_many (length (drafts_of cat select order) + 4)) (of_order cat select order) e

pub toc_are : (cat : Catalogue) (select : Select) (entries : List Entry) → toc cat select ≡ Ok entries → AllByRecursion IsOfDump entries
unfolding toc
toc_are cat select entries e = by_graph (objects_due cat select) e
  where
    by_order : (r : Result Sorted (List ObjId)) → ordered_due cat select r ≡ Ok entries → AllByRecursion IsOfDump entries
    by_order (Err path) e = absurd cc
    by_order (Ok order) e = counted_are cat select order entries e

    by_graph : (r : Result Parts SelectFault) → graph_due cat select r ≡ Ok entries → AllByRecursion IsOfDump entries
    by_graph (Err fault) e = absurd cc
    by_graph (Ok graph) e = by_order (due graph) e
