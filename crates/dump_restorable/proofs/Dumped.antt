-- The dump of a folder can be restored.
use Rattle.std.proofs.Common.{◌≡◌, Bool, true, false, cond, List, [], ◌∷◌, map, Option, Some, None, Result, Ok, Err, refl, sym, subst}
use Rattle.std.specs.List.{AllByRecursion, filter}
use Rattle.dump_ports.specs.Tree.{Tree}
use Rattle.cat_model.specs.Values.{Bytes}
use Rattle.cat_rows.specs.declared.catalogue.Catalogue.{Catalogue}
use Rattle.obj_graph.specs.declared.select.Select.{Select}
use Rattle.toc_entry.specs.declared.entry.Entry.{Entry}
use Rattle.toc_entry.specs.declared.head.Head.{Head}
use Rattle.tool_words.specs.Answers.{◌>>=◌}
use Rattle.dump_choices.specs.Data.{data_of, table_data}
use Rattle.dump_files.specs.declared.file.DataFile.{DataFile}
use Rattle.dump_files.specs.declared.stop.DumpStop.{DumpStop}
use Rattle.dump_files.specs.Needed.{unready}
use Rattle.dump_toc.specs.Toc.{Refusal, toc}
use Rattle.dump_plans.specs.Outcomes.{toc_told, ready_told}
use Rattle.dump_plans.specs.Plans.{Dumping, data_file, data_files, dumping_with, entries_due, dumping_of}
use Rattle.archive_laws.specs.Restored.{HasRows, HaveRows, IsRestorable}
use Rattle.dump_restorable.specs.Dumped.{all_taken, AreRead, IsDumped}
use Rattle.toc_kinds.specs.Kinds.{IsOfDump}
use Rattle.toc_kinds.proofs.Entries.{toc_are}
use Rattle.dump_restorable.proofs.Taken.{leaves_none}

-- ---- the data files

abbrev files_of : Bytes → Catalogue → List Entry → List DataFile
files_of folder cat kept = map (data_file folder) (map (data_of cat) kept)

rows_by : (tree : Tree) (folder : Bytes) (cat : Catalogue) (e : Entry) (es kept : List Entry) (has : Bool) → e.has_rows ≡ has → IsOfDump e → (AreRead tree (files_of folder cat kept) → HaveRows tree es (files_of folder cat kept))
    → AreRead tree (files_of folder cat (cond has (e ∷ kept) kept)) → HasRows tree e has (files_of folder cat (cond has (e ∷ kept) kept)) (λ others. HaveRows tree es others)
rows_by tree folder cat e es kept false has is again read = again read
rows_by tree folder cat e es kept true has is again read = (is.rows has, read.0, again read.1)

have_rows : (tree : Tree) (folder : Bytes) (cat : Catalogue) (es : List Entry) → AllByRecursion IsOfDump es → AreRead tree (files_of folder cat (filter (λ e. e.has_rows) es)) → HaveRows tree es (files_of folder cat (filter (λ e. e.has_rows) es))
have_rows tree folder cat [] are read = tt
have_rows tree folder cat (e ∷ es) are read = rows_by tree folder cat e es (filter (λ e. e.has_rows) es) e.has_rows refl are.0 (have_rows tree folder cat es are.1) read

-- ---- what is dumped

record IsDue (folder : Bytes) (select : Select) (cat : Catalogue) (dumping : Dumping) : Type 0 where
  entries : toc cat select ≡ Ok dumping.entries
  files : files_of folder cat (filter (λ e. e.has_rows) dumping.entries) ≡ dumping.files

ready_is : (folder : Bytes) (select : Select) (cat : Catalogue) (entries : List Entry) (dumping : Dumping) (stop : Option DumpStop) → toc cat select ≡ Ok entries
    → ready_told (dumping_with entries (files_of folder cat (filter (λ e. e.has_rows) entries))) stop ≡ Ok dumping → IsDue folder select cat dumping
ready_is folder select cat entries dumping None is e =
    let same : dumping_with entries (files_of folder cat (filter (λ e. e.has_rows) entries)) ≡ dumping = cc in
    subst (IsDue folder select cat) same (record { entries = is; files = refl })
ready_is folder select cat entries dumping (Some stop) is e = absurd cc

due_is : (folder : Bytes) (select : Select) (cat : Catalogue) (tree : Tree) (dumping : Dumping) → dumping_of folder select cat tree ≡ Ok dumping → IsDue folder select cat dumping
unfolding dumping_of data_files table_data
due_is folder select cat tree dumping e = by (toc cat select) refl e
  where
    by : (r : Result (List Entry) Refusal) → toc cat select ≡ r → toc_told r >>= entries_due folder cat tree ≡ Ok dumping → IsDue folder select cat dumping
    by (Err refusal) is f = absurd cc
    by (Ok entries) is f = ready_is folder select cat entries dumping (unready tree (data_files folder cat entries)) is f

pub restorable : (folder : Bytes) (select : Select) (cat : Catalogue) (tree : Tree) (head : Head) (dumping : Dumping) (owners : Bool) → IsDumped folder select cat tree head dumping → IsRestorable tree head dumping.entries dumping.files (all_taken owners)
restorable folder select cat tree head dumping owners is =
    let due = due_is folder select cat tree dumping is.due in
    let are = toc_are cat select dumping.entries due.entries in
    record {
      archive = is.archive;
      head_type = is.head_type;
      entry_types = is.entry_types;
      rows = subst (HaveRows tree dumping.entries) due.files (have_rows tree folder cat dumping.entries are (subst (AreRead tree) (sym due.files) is.rows));
      all = leaves_none owners dumping.entries are is.archive.each;
    }
