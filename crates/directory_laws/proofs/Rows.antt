-- The files of a dump's rows, and the rows that are read of them.
use Rattle.std.proofs.Common.{◌≡◌, ℕ, ◌+◌, ◌<◌, ◌≤◌, ◌^◌, ◌==◌, Bool, true, false, List, [], ◌∷◌, map, length, Option, Some, None, Result, Ok, Err, refl, sym, ap, ◌∙◌, arith}
use Rattle.std.specs.Prelude.{◌||◌, if◌then◌else◌}
use Rattle.std.specs.List.{AllByRecursion}
use Rattle.std.proofs.lemmas.Bool.{le-leb, eq-eqb, eqb-true}
use Rattle.dump_ports.specs.Tree.{Tree, text_at}
use Rattle.data_rows.specs.declared.fault.RowsFault.{RowsFault}
use Rattle.toc_entry.specs.declared.entry.Entry.{Entry}
use Rattle.toc_layout.specs.Values.{IsEntry}
use Rattle.toc_table.specs.Ids.{is_among}
use Rattle.toc_table.specs.Tables.{ids_with_rows}
use Rattle.fmt_directory.specs.declared.fault.DirFault.{DirFault}
use Rattle.fmt_directory.specs.declared.fault.DirFault.TheVariants.{TooLarge}
use Rattle.fmt_directory.specs.Directories.{toc_name, rows_name, found, text_by, text_due}
use Rattle.archive_scripts.specs.Directories.{rows_len}
use Rattle.archive_entries.specs.Extras.{filed}
use Rattle.archive_entries.specs.Fits.{Rise}
use Rattle.dump_files.specs.declared.file.DataFile.{DataFile}
use Rattle.dump_files.specs.Spelled.{Spelled}
use Rattle.dump_plain.specs.Dumps.{file_rows}
use Rattle.dump_directory.specs.Files.{Written}
use Rattle.dump_directory.specs.Directories.{Folder, after, one_file, rows_by, rows_then, with_file, data_out, AllApart}
use Rattle.archive_laws.specs.Restored.{RowIs, RowsAre, HasRows, HaveRows}
use Rattle.directory_laws.specs.Stored.{AreStored, size_of}
use Rattle.directory_laws.proofs.Names.{rows_apart, toc_apart}
use Rattle.directory_laws.proofs.Saved.{Distinct}

-- ---- the files

-- those of rows of which none fails
abbrev pub files_by : Tree → List ℕ → ℕ → Bool → List DataFile → (List DataFile → List Written) → List Written
files_by tree folder id false needed more = more needed
files_by tree folder id true [] more = more []
files_by tree folder id true (file ∷ needed) more = record { name = rows_name folder id; text = (file_rows tree file).text } ∷ more needed

abbrev pub files_of : Tree → List ℕ → List Entry → List DataFile → List Written
files_of tree folder [] needed = []
files_of tree folder (e ∷ es) needed = files_by tree folder e.dump_id e.has_rows needed (files_of tree folder es)

then_ok : (name : List ℕ) (table : ℕ) (s : Spelled) (more : Folder) → s.fault ≡ None → rows_then name table s more ≡ after (one_file name s.text) s.rows more
unfolding rows_then
then_ok name table s more e = ap (λ (f : Option RowsFault). rows_by name table s f more) e

abbrev pub Says : Folder → List Written → Type 0
Says w files = (w.bad ≡ None) × (w.files ≡ files)

says_by : (tree : Tree) (folder : List ℕ) (e : Entry) (es : List Entry) (has : Bool) (needed : List DataFile) (more : List DataFile → Folder) → ((others : List DataFile) → HaveRows tree es others → Says (more others) (files_of tree folder es others))
    → HasRows tree e has needed (λ others. HaveRows tree es others) → Says (with_file tree folder e.dump_id has needed more) (files_by tree folder e.dump_id has needed (files_of tree folder es))
says_by tree folder e es false needed more again r = again needed r
says_by tree folder e es true [] more again r = absurd r
says_by tree folder e es true (file ∷ others) more again r =
    let inner = again others r.2 in
    let text = (file_rows tree file).text in
    let is = then_ok (rows_name folder e.dump_id) file.table (file_rows tree file) (more others) r.1 in (
      ap (λ (w : Folder). w.bad) is ∙ inner.0,
      ap (λ (w : Folder). w.files) is ∙ ap (λ (l : List Written). record { name = rows_name folder e.dump_id; text = text } ∷ l) inner.1,
    )

pub says_files : (tree : Tree) (folder : List ℕ) (es : List Entry) (needed : List DataFile) → HaveRows tree es needed → Says (data_out tree folder es needed) (files_of tree folder es needed)
unfolding data_out
says_files tree folder [] needed r = (refl, refl)
says_files tree folder (e ∷ es) needed r = says_by tree folder e es e.has_rows needed (data_out tree folder es) (says_files tree folder es) r

-- ---- their names

apart_by : (tree : Tree) (folder name : List ℕ) (id : ℕ) (has : Bool) (needed : List DataFile) (more : List DataFile → List Written) → (rows_name folder id ≡ name → ⊥) → ((others : List DataFile) → AllApart (more others) name)
    → AllApart (files_by tree folder id has needed more) name
apart_by tree folder name id false needed more differs again = again needed
apart_by tree folder name id true [] more differs again = again []
apart_by tree folder name id true (file ∷ others) more differs again = (differs, again others)

pub toc_is_apart : (tree : Tree) (folder : List ℕ) (es : List Entry) (needed : List DataFile) → AllByRecursion IsEntry es → AllApart (files_of tree folder es needed) (toc_name folder)
toc_is_apart tree folder [] needed values = tt
toc_is_apart tree folder (e ∷ es) needed values =
    apart_by tree folder (toc_name folder) e.dump_id e.has_rows needed (files_of tree folder es) (toc_apart folder e.dump_id (omega (arith, values.0.dump_id))) (λ others. toc_is_apart tree folder es others values.1)

id_is_apart : (tree : Tree) (folder : List ℕ) (id last : ℕ) (es : List Entry) (needed : List DataFile) → id < 2 ^ 64 → id ≤ last → Rise last es → AllByRecursion IsEntry es → AllApart (files_of tree folder es needed) (rows_name folder id)
id_is_apart tree folder id last [] needed low less rise values = tt
id_is_apart tree folder id last (e ∷ es) needed low less rise values =
    apart_by tree folder (rows_name folder id) e.dump_id e.has_rows needed (files_of tree folder es) (rows_apart folder id e.dump_id low (omega (arith, values.0.dump_id)) (omega (arith, less, rise.0)))
    (λ others. id_is_apart tree folder id e.dump_id es others low (omega (arith, less, rise.0)) rise.1 values.1)

distinct_by : (tree : Tree) (folder : List ℕ) (id : ℕ) (has : Bool) (needed : List DataFile) (more : List DataFile → List Written) → ((others : List DataFile) → AllApart (more others) (rows_name folder id)) → ((others : List DataFile) → Distinct (more others))
    → Distinct (files_by tree folder id has needed more)
distinct_by tree folder id false needed more away again = again needed
distinct_by tree folder id true [] more away again = again []
distinct_by tree folder id true (file ∷ others) more away again = (away others, again others)

pub are_distinct : (tree : Tree) (folder : List ℕ) (last : ℕ) (es : List Entry) (needed : List DataFile) → Rise last es → AllByRecursion IsEntry es → Distinct (files_of tree folder es needed)
are_distinct tree folder last [] needed rise values = tt
are_distinct tree folder last (e ∷ es) needed rise values =
    distinct_by tree folder e.dump_id e.has_rows needed (files_of tree folder es)
    (λ others. id_is_apart tree folder e.dump_id e.dump_id es others (omega (arith, values.0.dump_id)) (omega arith) rise.1 values.1)
    (λ others. are_distinct tree folder e.dump_id es others rise.1 values.1)

-- ---- the ids of entries with rows

abbrev met_by : Bool → ℕ → List ℕ → List ℕ
met_by has id met = if has then id ∷ met else met

pub ids_filed : (met : List ℕ) (es : List Entry) → ids_with_rows met (map filed es) ≡ ids_with_rows met es
ids_filed met [] = refl
ids_filed met (e ∷ es) = ids_filed (met_by e.has_rows e.dump_id met) es

other_id : (i k : ℕ) (b : Bool) → (i == k) ≡ b → k < i → (i == k) ≡ false
other_id i k false is less = is
other_id i k true is less = absurd (omega (arith, eqb-true i k is))

unmet : (has : Bool) (met : List ℕ) (i k : ℕ) → k < i → is_among (met_by has i met) k ≡ is_among met k
unmet false met i k less = refl
unmet true met i k less = ap (λ (b : Bool). b || is_among met k) (other_id i k (i == k) refl less)

-- those of later entries are none of earlier ones
behind : (met : List ℕ) (last k : ℕ) (es : List Entry) → k ≤ last → Rise last es → is_among (ids_with_rows met es) k ≡ is_among met k
behind met last k [] less rise = refl
behind met last k (e ∷ es) less rise =
    behind (met_by e.has_rows e.dump_id met) e.dump_id k es (omega (arith, less, rise.0)) rise.1 ∙ unmet e.has_rows met e.dump_id k (omega (arith, less, rise.0))

here : (has : Bool) (met : List ℕ) (id : ℕ) → is_among met id ≡ false → is_among (met_by has id met) id ≡ has
here false met id new = new
here true met id new = ap (λ (b : Bool). b || is_among met id) (eq-eqb id id refl)

new_id : (has : Bool) (met : List ℕ) (i : ℕ) → ((k : ℕ) → i < k → is_among met k ≡ false) → (k : ℕ) → i < k → is_among (met_by has i met) k ≡ false
new_id false met i new k more = new k more
new_id true met i new k more = ap (λ (b : Bool). b || is_among met k) (less_id (i == k) refl) ∙ new k more
  where
    less_id : (b : Bool) → (i == k) ≡ b → (i == k) ≡ false
    less_id false is = is
    less_id true is = absurd (omega (arith, eqb-true i k is, more))

-- an id is among them exactly where its entry has rows
abbrev pub Marked : List ℕ → List Entry → Type 0
Marked ids es = AllByRecursion (λ (e : Entry). is_among ids e.dump_id ≡ e.has_rows) es

pub marked : (met : List ℕ) (last : ℕ) (es : List Entry) → Rise last es → ((k : ℕ) → last < k → is_among met k ≡ false) → Marked (ids_with_rows met es) es
marked met last [] rise new = tt
marked met last (e ∷ es) rise new =
    let later = met_by e.has_rows e.dump_id met in (
      behind later e.dump_id e.dump_id es (omega arith) rise.1 ∙ here e.has_rows met e.dump_id (new e.dump_id rise.0),
      marked later e.dump_id es rise.1 (new_id e.has_rows met e.dump_id (λ k more. new k (omega (arith, more, rise.0)))),
    )

-- ---- the rows that are read

module _ (tree now : Tree) (folder ids : List ℕ) where
  -- those of a dump id
  abbrev pub rows_at : ℕ → Option (List ℕ)
  rows_at id = if is_among ids id then text_at now (rows_name folder id) else None

  abbrev pub rows_read : ℕ → Result (Option (List ℕ)) DirFault
  rows_read id = if is_among ids id then found (text_due (rows_name folder id) now) else Ok None

  -- how many bytes they are
  abbrev pub bytes_of : List Entry → ℕ
  bytes_of [] = 0
  bytes_of (e ∷ es) = rows_len (rows_at e.dump_id) + bytes_of es

  abbrev pub AreRead : List Entry → Type 0
  AreRead es = AllByRecursion (λ (e : Entry). rows_read e.dump_id ≡ Ok (rows_at e.dump_id)) es

  some_rows : (id : ℕ) (text : List ℕ) → is_among ids id ≡ true → text_at now (rows_name folder id) ≡ Some text → rows_at id ≡ Some text
  some_rows id text is there = ap (λ (b : Bool). if b then text_at now (rows_name folder id) else None) is ∙ there

  no_rows : (id : ℕ) → is_among ids id ≡ false → rows_at id ≡ None
  no_rows id is = ap (λ (b : Bool). if b then text_at now (rows_name folder id) else None) is

  some_read : (id : ℕ) (text : List ℕ) → is_among ids id ≡ true → text_at now (rows_name folder id) ≡ Some text → length text ≤ 268435456 → rows_read id ≡ Ok (Some text)
  some_read id text is there few =
      ap (λ (b : Bool). if b then found (text_due (rows_name folder id) now) else Ok None) is
      ∙ ap (λ (o : Option (List ℕ)). found (text_by (rows_name folder id) o)) there
      ∙ ap (λ (b : Bool). found (if b then Ok text else Err (TooLarge 268435457))) (le-leb (length text) 268435456 few)

  none_read : (id : ℕ) → is_among ids id ≡ false → rows_read id ≡ Ok None
  none_read id is = ap (λ (b : Bool). if b then found (text_due (rows_name folder id) now) else Ok None) is

  -- what was written of entries is read of them, and has so many bytes
  abbrev pub Holds : List Entry → List DataFile → Type 0
  Holds es needed = RowsAre tree rows_at (map filed es) needed × AreRead (map filed es) × (bytes_of (map filed es) ≡ size_of (files_of tree folder es needed))

  holds_by : (e : Entry) (es : List Entry) (has : Bool) (needed : List DataFile) → is_among ids e.dump_id ≡ has
      → ((others : List DataFile) → HaveRows tree es others → AreStored now (files_of tree folder es others) → size_of (files_of tree folder es others) ≤ 268435456 → Holds es others)
      → HasRows tree e has needed (λ others. HaveRows tree es others) → AreStored now (files_by tree folder e.dump_id has needed (files_of tree folder es)) → size_of (files_by tree folder e.dump_id has needed (files_of tree folder es)) ≤ 268435456
      → RowIs tree rows_at (filed e) has needed (λ others. RowsAre tree rows_at (map filed es) others) × AreRead (map filed (e ∷ es)) × (bytes_of (map filed (e ∷ es)) ≡ size_of (files_by tree folder e.dump_id has needed (files_of tree folder es)))
  holds_by e es false needed is again r stored few =
      let inner = again needed r stored few in
      let none = no_rows e.dump_id is in
      ((none, inner.0), (none_read e.dump_id is ∙ ap (λ (o : Option (List ℕ)). Ok o) (sym none), inner.1), omega (arith, ap rows_len none, inner.2))
  holds_by e es true [] is again r stored few = absurd r
  holds_by e es true (file ∷ others) is again r stored few =
      let text = (file_rows tree file).text in
      let inner = again others r.2 stored.1 (omega (arith, few)) in
      let some = some_rows e.dump_id text is stored.0 in (
        (r.0, r.1, some, inner.0),
        (some_read e.dump_id text is stored.0 (omega (arith, few)) ∙ ap (λ (o : Option (List ℕ)). Ok o) (sym some), inner.1),
        omega (arith, ap rows_len some, inner.2),
      )

  pub holds : (es : List Entry) (needed : List DataFile) → Marked ids es → HaveRows tree es needed → AreStored now (files_of tree folder es needed) → size_of (files_of tree folder es needed) ≤ 268435456 → Holds es needed
  holds [] needed marks r stored few = (tt, tt, refl)
  holds (e ∷ es) needed marks r stored few = holds_by e es e.has_rows needed marks.0 (λ others rows there less. holds es others marks.1 rows there less) r stored few
