-- Files of a directory that are written one after another.
use Rattle.std.proofs.Common.{◌≡◌, ◌≢◌, ℕ, ◌+◌, Bool, true, List, [], ◌∷◌, ◌++◌, map, Option, Some, None, refl, sym, ap, subst, ◌∙◌, append_assoc, append-nil, inl, arith}
use Rattle.dump_ports.specs.Tree.{Tree, bytes_at}
use Rattle.data_rows.specs.declared.fault.RowsFault.{RowsFault}
use Rattle.toc_entry.specs.declared.entry.Entry.{Entry}
use Rattle.toc_entry.specs.declared.head.Head.{Head}
use Rattle.archive_entries.specs.Extras.{filed}
use Rattle.fmt_directory.specs.Directories.{toc_name, rows_name}
use Rattle.dump_files.specs.declared.file.DataFile.{DataFile}
use Rattle.dump_files.specs.declared.stop.DumpStop.{DumpStop}
use Rattle.dump_files.specs.declared.stop.DumpStop.TheVariants.{Missing, TooLarge, ReadFault, BadRows, WriteFault, Memory}
use Rattle.dump_files.specs.Spelled.{Spelled}
use Rattle.dump_files.specs.Stops.{IsPutStop}
use Rattle.dump_files.specs.Outlets.{Outside, outputs, IsBegun, Stands, Holds}
use Rattle.dump_files.proofs.OutletLemmas.{holds_kept}
use Rattle.dump_plain.specs.Dumps.{file_rows}
use Rattle.dump_plain.specs.Stops.{IsDumpStop}
use Rattle.dump_plain.proofs.GoingLemmas.{stop_as}
use Rattle.dump_directory.specs.Files.{Written, saved, IsPart, PartSaved, IsBeyond, AreBeyond}
use Rattle.dump_directory.specs.Directories.{Folder, after, no_file, one_file, rows_by, rows_then, with_file, data_out, toc_dat, directory_out, told, AllApart, Saves}

pub data-nil : (tree : Tree) (folder : List ℕ) (needed : List DataFile) → data_out tree folder [] needed ≡ no_file
unfolding data_out
data-nil tree folder needed = refl

pub data-cons : (tree : Tree) (folder : List ℕ) (e : Entry) (es : List Entry) (needed : List DataFile) → data_out tree folder (e ∷ es) needed ≡ with_file tree folder e.dump_id e.has_rows needed (data_out tree folder es)
unfolding data_out
data-cons tree folder e es needed = refl

pub directory-is : (tree : Tree) (folder : List ℕ) (head : Head) (entries : List Entry) (needed : List DataFile) → directory_out tree folder head entries needed ≡ after (one_file (toc_name folder) (toc_dat head (map filed entries))) 0 (data_out tree folder entries needed)
unfolding directory_out
directory-is tree folder head entries needed = refl

rows_then-ok : (name : List ℕ) (table : ℕ) (s : Spelled) (more : Folder) → s.fault ≡ None → rows_then name table s more ≡ after (one_file name s.text) s.rows more
unfolding rows_then
rows_then-ok name table s more e = ap (λ (f : Option RowsFault). rows_by name table s f more) e

rows_then-bad : (name : List ℕ) (table : ℕ) (s : Spelled) (more : Folder) (first : RowsFault) → s.fault ≡ Some first → rows_then name table s more ≡ record { files = one_file name s.text; rows = s.rows; bad = Some (record { table = table; first = first }) }
unfolding rows_then
rows_then-bad name table s more first e = ap (λ (f : Option RowsFault). rows_by name table s f more) e

rows_files : (name : List ℕ) (table : ℕ) (s : Spelled) (more : Folder) → (later : List Written) × ((rows_then name table s more).files ≡ one_file name s.text ++ later)
rows_files name table s more = by s.fault refl
  where
    by : (f : Option RowsFault) → s.fault ≡ f → (later : List Written) × ((rows_then name table s more).files ≡ one_file name s.text ++ later)
    by None e = (more.files, ap (λ (w : Folder). w.files) (rows_then-ok name table s more e))
    by (Some first) e = ([], ap (λ (w : Folder). w.files) (rows_then-bad name table s more first e))

file_stop : (tree : Tree) (name : List ℕ) (file : DataFile) (needed : List DataFile) (s : Spelled) (more : Folder) (stop : DumpStop) → IsPutStop file.table (bytes_at tree file.name) s stop → IsDumpStop tree (file ∷ needed) (told (rows_then name file.table s more)) stop
file_stop tree name file needed s more (Missing path) p = p
file_stop tree name file needed s more (TooLarge n) p = (p.0, inl p.1)
file_stop tree name file needed s more ReadFault p = tt
file_stop tree name file needed s more (BadRows of first) p =
    ap (λ (w : Folder). w.bad) (rows_then-bad name file.table s more first p.1) ∙ ap (λ (t : ℕ). Some (record { table = t; first = first })) (sym p.0)
file_stop tree name file needed s more WriteFault p = tt
file_stop tree name file needed s more Memory p = tt

-- ---- files one after another

saved-append : (xs ys : List Written) (o : Outside) → saved (xs ++ ys) o ≡ saved ys (saved xs o)
saved-append [] ys o = refl
saved-append (x ∷ xs) ys o = saved-append xs ys (outputs (Some x.name) x.text o)

apart-append : (xs ys : List Written) (name : List ℕ) → AllApart xs name → AllApart ys name → AllApart (xs ++ ys) name
apart-append [] ys name a b = b
apart-append (x ∷ xs) ys name a b = (a.0, apart-append xs ys name a.1 b)

saved_holds : (files : List Written) (name text : List ℕ) (o : Outside) → AllApart files name → Holds o.tree name text → Holds (saved files o).tree name text
saved_holds [] name text o a h = h
saved_holds (x ∷ xs) name text o a h = saved_holds xs name text (outputs (Some x.name) x.text o) a.1 (holds_kept (Some x.name) name text x.text o (outputs (Some x.name) x.text o) a.0 refl h)

after-after : (files more : List Written) (rows others : ℕ) (w : Folder) → after files rows (after more others w) ≡ after (files ++ more) (rows + others) w
after-after files more rows others w =
    let many : rows + (others + w.rows) ≡ rows + others + w.rows = omega arith in
    rw (many, ← append_assoc files more w.files) refl

-- a file that may be written is none that a name beyond tells
toc_apart : (folder other : List ℕ) → IsBeyond folder other → toc_name folder ≢ other
toc_apart folder other beyond same = beyond.0 (sym same)

pub rows_apart : (folder name other : List ℕ) (id : ℕ) → name ≡ rows_name folder id → IsBeyond folder other → name ≢ other
rows_apart folder name other id is beyond same = beyond.1 id (sym same ∙ is)

module _ (folder : List ℕ) (due : Folder) (before now : Outside) (rows : ℕ) (still : Folder) (saves : Saves folder due before now rows still) where
  pub saves_as : (count : ℕ) (other : Folder) → rows ≡ count → still ≡ other → Saves folder due before now count other
  saves_as count other r e = record { done = saves.done; is = saves.is; same = saves.same ∙ ap (λ (n : ℕ). after saves.done n still) r ∙ ap (after saves.done count) e; apart = saves.apart }

  pub saves_holds : (name text : List ℕ) → IsBeyond folder name → Holds before.tree name text → Holds now.tree name text
  saves_holds name text beyond h = subst (λ (o : Outside). Holds o.tree name text) (sym saves.is) (saved_holds saves.done name text before (saves.apart name beyond) h)

  pub saves_on : (name text : List ℕ) (count : ℕ) (more : Folder) (now' : Outside) → ((other : List ℕ) → IsBeyond folder other → name ≢ other) → still ≡ after (one_file name text) count more → now' ≡ outputs (Some name) text now → Saves folder due before now' (rows + count) more
  saves_on name text count more now' away e n = record {
    done = saves.done ++ one_file name text;
    is = n ∙ ap (outputs (Some name) text) saves.is ∙ sym (saved-append saves.done (one_file name text) before);
    same = saves.same ∙ ap (after saves.done rows) e ∙ after-after saves.done (one_file name text) rows count more;
    apart = λ other beyond. apart-append saves.done (one_file name text) other (saves.apart other beyond) (away other beyond, tt);
  }

  split : due.files ≡ saves.done ++ still.files
  split = ap (λ (w : Folder). w.files) saves.same

  -- the next file was begun
  pub saves_part : (name text : List ℕ) (later : List Written) (now' : Outside) → still.files ≡ one_file name text ++ later → IsBegun (Some name) text now now' → PartSaved due.files before now'
  saves_part name text later now' e p = record {
    whole = saves.done;
    later = one_file name text ++ later;
    split = split ∙ ap (λ (l : List Written). saves.done ++ l) e;
    part = subst (λ (o : Outside). IsBegun (Some name) text o now') saves.is p;
  }

  none_part : (files : List Written) (o after_it : Outside) → after_it ≡ o → IsPart files o after_it
  none_part [] o after_it e = e
  none_part (x ∷ xs) o after_it e = inl e

  -- nothing more was written
  pub saves_none : PartSaved due.files before now
  saves_none = record { whole = saves.done; later = still.files; split = split; part = none_part still.files (saved saves.done before) now saves.is }

  pub saves_stop : (tree : Tree) (needed : List DataFile) (stop : DumpStop) → IsDumpStop tree needed (told still) stop → IsDumpStop tree needed (told due) stop
  saves_stop tree needed stop p = stop_as tree needed needed (told due) (told still) stop (λ l. l) (ap (λ (w : Folder). w.bad) saves.same) p

not_begun : (files : List Written) (o : Outside) → IsPart files o o
not_begun [] o = refl
not_begun (x ∷ xs) o = inl refl

-- nothing was written
pub untouched : (files : List Written) (o : Outside) → PartSaved files o o
untouched files o = record { whole = []; later = files; split = refl; part = not_begun files o }

-- all files are whole
pub saves_end : (folder : List ℕ) (due : Folder) (before now : Outside) (rows : ℕ) → Saves folder due before now rows no_file → (due.bad ≡ None) × (rows ≡ due.rows) × (now ≡ saved due.files before)
saves_end folder due before now rows saves = (
  ap (λ (w : Folder). w.bad) saves.same,
  omega (arith, ap (λ (w : Folder). w.rows) saves.same),
  saves.is ∙ ap (λ (l : List Written). saved l before) (sym (append-nil saves.done) ∙ sym (ap (λ (w : Folder). w.files) saves.same)),
)

-- ---- `toc.dat`

pub toc_part : (name text : List ℕ) (due more : Folder) (before now : Outside) → due ≡ after (one_file name text) 0 more → IsBegun (Some name) text before now → PartSaved due.files before now
toc_part name text due more before now e p = record { whole = []; later = one_file name text ++ more.files; split = ap (λ (w : Folder). w.files) e; part = p }

pub toc_saves : (folder text : List ℕ) (due more : Folder) (before now : Outside) → due ≡ after (one_file (toc_name folder) text) 0 more → now ≡ outputs (Some (toc_name folder)) text before → Saves folder due before now 0 more
toc_saves folder text due more before now e n = record {
  done = one_file (toc_name folder) text;
  is = n;
  same = e;
  apart = λ other beyond. (toc_apart folder other beyond, tt);
}

-- ---- the file of an entry

module _ (tree : Tree) (folder : List ℕ) (id : ℕ) (has_rows : Bool) (has : has_rows ≡ true) (needed : List DataFile) (file : DataFile) (others : List DataFile) (cut : needed ≡ file ∷ others) (more : List DataFile → Folder) where
  opened : with_file tree folder id has_rows needed more ≡ rows_then (rows_name folder id) file.table (file_rows tree file) (more others)
  opened = ap (λ (b : Bool). with_file tree folder id b needed more) has ∙ ap (λ (l : List DataFile). with_file tree folder id true l more) cut

  pub entry_ok : (due : Folder) (before now now' : Outside) (rows count : ℕ) (name : List ℕ) → Saves folder due before now rows (with_file tree folder id has_rows needed more) → name ≡ rows_name folder id
      → ((file_rows tree file).fault ≡ None) × (count ≡ (file_rows tree file).rows) × (now' ≡ outputs (Some name) (file_rows tree file).text now) → Saves folder due before now' (rows + count) (more others)
  entry_ok due before now now' rows count name saves n p =
      saves_on folder due before now rows (with_file tree folder id has_rows needed more) saves (rows_name folder id) (file_rows tree file).text count (more others) now' (λ other beyond. rows_apart folder (rows_name folder id) other id refl beyond)
      (opened ∙ rows_then-ok (rows_name folder id) file.table (file_rows tree file) (more others) p.0 ∙ ap (λ (k : ℕ). after (one_file (rows_name folder id) (file_rows tree file).text) k (more others)) (sym p.1))
      (p.2 ∙ ap (λ (x : List ℕ). outputs (Some x) (file_rows tree file).text now) n)

  pub entry_err : (due : Folder) (before now now' : Outside) (rows : ℕ) (name : List ℕ) (stop : DumpStop) → Saves folder due before now rows (with_file tree folder id has_rows needed more) → name ≡ rows_name folder id
      → IsPutStop file.table (bytes_at tree file.name) (file_rows tree file) stop × IsBegun (Some name) (file_rows tree file).text now now' → IsDumpStop tree needed (told due) stop × PartSaved due.files before now'
  entry_err due before now now' rows name stop saves n p =
      let whole = rows_files (rows_name folder id) file.table (file_rows tree file) (more others) in (
        saves_stop folder due before now rows (with_file tree folder id has_rows needed more) saves tree needed stop
            (rw (opened, cut) (file_stop tree (rows_name folder id) file others (file_rows tree file) (more others) stop p.0)),
        saves_part folder due before now rows (with_file tree folder id has_rows needed more) saves (rows_name folder id) (file_rows tree file).text whole.0 now'
            (ap (λ (w : Folder). w.files) opened ∙ whole.1)
            (subst (λ (x : List ℕ). IsBegun (Some x) (file_rows tree file).text now now') n p.1),
      )

  pub first_beyond : AreBeyond folder needed → IsBeyond folder file.name
  first_beyond beyond = (subst (AreBeyond folder) cut beyond).0

pub begun_as : (name other text same : List ℕ) (before now : Outside) → name ≡ other → text ≡ same → IsBegun (Some name) text before now → IsBegun (Some other) same before now
begun_as name other text same before now n t p = subst (λ (x : List ℕ). IsBegun (Some x) same before now) n (subst (λ (x : List ℕ). IsBegun (Some name) x before now) t p)

-- nothing waits
pub stands_all : (target : Option (List ℕ)) (text : List ℕ) (before now : Outside) (waiting : List ℕ) → Stands target text before now waiting → waiting ≡ [] → now ≡ outputs target text before
stands_all target text before now waiting s none = s.is ∙ ap (λ (l : List ℕ). outputs target l before) (sym (append-nil s.done) ∙ ap (λ (l : List ℕ). s.done ++ l) (sym none) ∙ sym s.split)
