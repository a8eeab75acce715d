-- A folder to which the texts of a catalogue and its rows are written holds them; and the steps of reading are alike for
-- all folders that hold them.
use Rattle.std.proofs.Common.{◌≡◌, ℕ, ◌+◌, ◌<◌, Bool, true, false, List, [], ◌∷◌, ◌++◌, length, map, Option, Some, unwrap_or, Result, Ok, Err, refl, sym, ap, subst, ◌∙◌, inr, ◌||◌}
use Rattle.std.specs.Ordering.{nat_cmp, eq_by_cmp}
use Rattle.std.specs.Cmp.{nat_cmp_total, eq_by_cmp_equiv}
use Rattle.std.specs.List.{AllByRecursion, list_any, sum_by}
use Rattle.std.specs.FinMap.{from_entries}
use Rattle.std.proofs.lemmas.Bool.{true≢false, false≢true}
use Rattle.std.proofs.lemmas.List.Sums.{sum_by-cons}
use Rattle.dump_ports.specs.Tree.{Tree, text_at}
use Rattle.cat_rows.specs.declared.table.SysTable.{SysTable}
use Rattle.cat_rows.specs.declared.table.SysTable.TheVariants.{PgAuthid, PgAuthMembers, PgDatabase, PgNamespace, PgType, PgEnum, PgClass, PgAttribute, PgAttrdef, PgConstraint, PgIndex, PgSequence, PgRewrite, PgDescription, PgDepend}
use Rattle.cat_rows.specs.declared.cell.Cell.{Cell}
use Rattle.cat_rows.specs.declared.catalogue.Catalogue.{Catalogue}
use Rattle.cat_rows.specs.Catalogues.{rows_in}
use Rattle.cat_rows.specs.Order.{IsInOrder}
use Rattle.cat_rows.specs.Reading.{table_of}
use Rattle.cat_rows.specs.Writing.{AreRowsOf}
use Rattle.cat_rows.specs.Writing.{text_of as lines_of}
use Rattle.cat_names.specs.DataSets.{TextsByOid}
use Rattle.cat_names.specs.Lookups.{has_oid}
use Rattle.table_rows.specs.Tables.{table_oids}
use Rattle.table_rows.specs.Values.{text_of as text_put}
use Rattle.folder_io.specs.declared.file.ExportFile.{ExportFile}
use Rattle.folder_io.specs.declared.file.ExportFile.TheVariants.{Marker, Table, Data}
use Rattle.folder_io.specs.declared.fault.FolderFault.{FolderFault}
use Rattle.folder_io.specs.declared.fault.FolderLimit.{FolderLimit}
use Rattle.folder_io.specs.declared.fault.FolderLimit.TheVariants.{TableFile, DataFile}
use Rattle.folder_io.specs.Answers.{◌>>=◌, each_of}
use Rattle.folder_io.specs.Folders.{Bytes, TextOfTable, all_tables, marker, marked, file_of, file_name, file_text, file_length, within, text_of, texts_of, rows_of, placed, tables_of, marker_of, catalogue_files, bytes_of, catalogue_of}
use Rattle.folder_io.proofs.Standing.{bind_ok, ok_same, within_ok}
use Rattle.folder_rows.specs.Reading.{data_text, total_of, texts_from, rows_from, data_of}
use Rattle.folder_rows.proofs.Steps.{same_oid}
use Rattle.exports.specs.Cells.{catalogue_with}
use Rattle.saved_folders.specs.Files.{File, saved}
use Rattle.saved_folders.specs.Folders.{Texts, DataText, data_text as put_text, data_written, table_written, marker_written, files_of, folder_saved, IsTextOf, AreTexts}
use Rattle.saved_folders.proofs.Names.{same, itself, in_folder, one_table, one_oid, data_or_table, data_or_marker, marker_or_table, flipped, has_name, Agree, held, agree_both, has_first, has_second, others_agree}
use Rattle.saved_folders.proofs.Oids.{Small, small_oids, tables_stay}

-- ---- what the laws of rows give

abbrev pub OneOrder : Type 0
OneOrder = (table : SysTable) (rows written other : List (List Cell)) → IsInOrder table rows written → IsInOrder table rows other → written ≡ other

abbrev pub CanBeWritten : Type 0
CanBeWritten = (table : SysTable) (text : List ℕ) (rows : List (List Cell)) → table_of table text ≡ Ok rows → AreRowsOf table rows

-- ---- the text of each table

every : (P : SysTable → Type 0) → AllByRecursion P all_tables → (table : SysTable) → P table
every P all PgAuthid = all.0
every P all PgAuthMembers = all.1.0
every P all PgDatabase = all.1.1.0
every P all PgNamespace = all.1.1.1.0
every P all PgType = all.1.1.1.1.0
every P all PgEnum = all.1.1.1.1.1.0
every P all PgClass = all.1.1.1.1.1.1.0
every P all PgAttribute = all.1.1.1.1.1.1.1.0
every P all PgAttrdef = all.1.1.1.1.1.1.1.1.0
every P all PgConstraint = all.1.1.1.1.1.1.1.1.1.0
every P all PgIndex = all.1.1.1.1.1.1.1.1.1.1.0
every P all PgSequence = all.1.1.1.1.1.1.1.1.1.1.1.0
every P all PgRewrite = all.1.1.1.1.1.1.1.1.1.1.1.1.0
every P all PgDescription = all.1.1.1.1.1.1.1.1.1.1.1.1.1.0
every P all PgDepend = all.1.1.1.1.1.1.1.1.1.1.1.1.1.1.0

-- the text of a table with its rows, in the table's order
pub record TableFound (cat : Catalogue) (table : SysTable) : Type 0 where
  pub text : Bytes
  pub is : IsTextOf cat (record { table = table; text = text })

by_table : (cat : Catalogue) (texts : List TextOfTable) → AllByRecursion (IsTextOf cat) texts → AllByRecursion (TableFound cat) (map (λ text. text.table) texts)
by_table cat [] all = tt
by_table cat (text ∷ texts) all = (record { text = text.text; is = all.0 }, by_table cat texts all.1)

pub found_text : (cat : Catalogue) (rows : TextsByOid) (texts : Texts) → AreTexts cat rows texts → (table : SysTable) → TableFound cat table
found_text cat rows texts are table = every (TableFound cat) (subst (AllByRecursion (TableFound cat)) are.tables (by_table cat texts.tables are.written)) table

-- a table has one text
pub one_text : OneOrder → (cat : Catalogue) (a b : TextOfTable) → a.table ≡ b.table → IsTextOf cat a → IsTextOf cat b → a.text ≡ b.text
one_text one cat a b e is_a is_b =
    let order : IsInOrder b.table (rows_in b.table cat) is_a.rows = subst (λ (t : SysTable). IsInOrder t (rows_in t cat) is_a.rows) e is_a.written.order in
    is_a.written.text ∙ ap lines_of (one b.table (rows_in b.table cat) is_a.rows is_b.rows order is_b.written.order) ∙ sym is_b.written.text

-- ---- a folder that holds these texts

pub record HoldsTexts (folder : Bytes) (tree : Tree) (cat : Catalogue) (rows : TextsByOid) (text : SysTable → Bytes) : Type 0 where
  pub marked : text_at tree (file_of folder Marker) ≡ Some marker
  pub tables : (table : SysTable) → text_at tree (file_of folder (Table table)) ≡ Some (text table)
  pub put : (oid : ℕ) → has_oid (table_oids cat) oid ≡ true → text_at tree (file_of folder (Data oid)) ≡ Some (text_put rows oid)

-- what holds of each oid holds of one among them
pub of_oid : (P : ℕ → Type 0) (oids : List ℕ) → AllByRecursion P oids → (oid : ℕ) → has_oid oids oid ≡ true → P oid
of_oid P [] all oid has = absurd (false≢true has)
of_oid P (o ∷ os) all oid has = by (eq_by_cmp nat_cmp oid o) refl has (of_oid P os all.1 oid)
  where
    by : (b : Bool) → eq_by_cmp nat_cmp oid o ≡ b → (b || has_oid os oid) ≡ true → (has_oid os oid ≡ true → P oid) → P oid
    by true is has more = subst P (sym (same_oid oid o is)) all.0
    by false is has more = more has

-- each of some oids is one of them
later : (c d : Bool) → d ≡ true → (c || d) ≡ true
later true d e = refl
later false d e = e

has_first_oid : (o : ℕ) (os : List ℕ) → has_oid (o ∷ os) o ≡ true
has_first_oid o os = ap (λ (b : Bool). b || has_oid os o) ((eq_by_cmp_equiv nat_cmp_total).refl o)

pub each_among : (oids os : List ℕ) → ((oid : ℕ) → has_oid os oid ≡ true → has_oid oids oid ≡ true) → AllByRecursion (λ oid. has_oid oids oid ≡ true) os
each_among oids [] to = tt
each_among oids (o ∷ os) to = (to o (has_first_oid o os), each_among oids os (λ oid has. to oid (later (eq_by_cmp nat_cmp oid o) (has_oid os oid) has)))

module _ (one : OneOrder) (can : CanBeWritten) (cat : Catalogue) (rows : TextsByOid) (texts : Texts) (are : AreTexts cat rows texts) (folder : Bytes) (tree : Tree) where
  abbrev oids : List ℕ
  oids = table_oids cat

  abbrev found : (table : SysTable) → TableFound cat table
  found table = found_text cat rows texts are table

  small : Small oids
  small =
      let rows_found = (found PgClass).is in
      small_oids cat rows_found.rows rows_found.written.order.permutation (can PgClass (lines_of rows_found.rows) rows_found.rows rows_found.written.reads)

  abbrev stored : List File
  stored = map (data_written folder) (map (put_text rows) oids)

  abbrev tables : List File
  tables = map (table_written folder) texts.tables

  -- the files, with the oids for their texts
  files_are : files_of folder texts ≡ (stored ++ tables) ++ marker_written folder ∷ []
  files_are = ap (λ (d : List DataText). (map (data_written folder) d ++ tables) ++ marker_written folder ∷ []) are.put

  data_agree : (oid : ℕ) → oid < 4294967296 → (os : List ℕ) → Small os → Agree (file_of folder (Data oid)) (text_put rows oid) (map (data_written folder) (map (put_text rows) os))
  data_agree oid fits [] all = tt
  data_agree oid fits (o ∷ os) all =
      (λ e. ap (text_put rows) (sym (one_oid oid o fits all.0 (sym (in_folder folder (Data oid) (Data o)) ∙ e))), data_agree oid fits os all.1)

  data_there : (oid : ℕ) (os : List ℕ) → has_oid os oid ≡ true → has_name (file_of folder (Data oid)) (map (data_written folder) (map (put_text rows) os)) ≡ true
  data_there oid [] has = absurd (false≢true has)
  data_there oid (o ∷ os) has = by (eq_by_cmp nat_cmp oid o) refl has (data_there oid os)
    where
      later : (c d : Bool) → d ≡ true → (c || d) ≡ true
      later true d e = refl
      later false d e = e

      by : (b : Bool) → eq_by_cmp nat_cmp oid o ≡ b → (b || has_oid os oid) ≡ true → (has_oid os oid ≡ true → has_name (file_of folder (Data oid)) (map (data_written folder) (map (put_text rows) os)) ≡ true)
          → (same (file_of folder (Data oid)) (file_of folder (Data o)) || has_name (file_of folder (Data oid)) (map (data_written folder) (map (put_text rows) os))) ≡ true
      by true is has more =
          ap (λ (c : Bool). c || has_name (file_of folder (Data oid)) (map (data_written folder) (map (put_text rows) os)))
          (ap (λ (n : ℕ). same (file_of folder (Data oid)) (file_of folder (Data n))) (sym (same_oid oid o is)) ∙ itself (file_of folder (Data oid)))
      by false is has more = later (same (file_of folder (Data oid)) (file_of folder (Data o))) (has_name (file_of folder (Data oid)) (map (data_written folder) (map (put_text rows) os))) (more has)

  tables_agree : (table : SysTable) (ts : List TextOfTable) → AllByRecursion (IsTextOf cat) ts → Agree (file_of folder (Table table)) (found table).text (map (table_written folder) ts)
  tables_agree table [] all = tt
  tables_agree table (t ∷ ts) all =
      (λ e. one_text one cat t (record { table = table; text = (found table).text }) (sym (one_table table t.table (sym (in_folder folder (Table table) (Table t.table)) ∙ e))) all.0 (found table).is, tables_agree table ts all.1)

  table_there : (table : SysTable) (ts : List TextOfTable) → list_any (λ (t : SysTable). same (file_name (Table table)) (file_name (Table t))) (map (λ t. t.table) ts) ≡ true → has_name (file_of folder (Table table)) (map (table_written folder) ts) ≡ true
  table_there table [] has = absurd (false≢true has)
  table_there table (t ∷ ts) has = by (same (file_name (Table table)) (file_name (Table t.table))) (in_folder folder (Table table) (Table t.table)) has (table_there table ts)
    where
      by : (b : Bool) → same (file_of folder (Table table)) (file_of folder (Table t.table)) ≡ b → (b || list_any (λ (u : SysTable). same (file_name (Table table)) (file_name (Table u))) (map (λ u. u.table) ts)) ≡ true
          → (list_any (λ (u : SysTable). same (file_name (Table table)) (file_name (Table u))) (map (λ u. u.table) ts) ≡ true → has_name (file_of folder (Table table)) (map (table_written folder) ts) ≡ true)
          → (same (file_of folder (Table table)) (file_of folder (Table t.table)) || has_name (file_of folder (Table table)) (map (table_written folder) ts)) ≡ true
      by true is has more = ap (λ (c : Bool). c || has_name (file_of folder (Table table)) (map (table_written folder) ts)) is
      by false is has more = ap (λ (c : Bool). c || has_name (file_of folder (Table table)) (map (table_written folder) ts)) is ∙ more has

  listed : (table : SysTable) → list_any (λ (t : SysTable). same (file_name (Table table)) (file_name (Table t))) all_tables ≡ true
  listed PgAuthid = refl
  listed PgAuthMembers = refl
  listed PgDatabase = refl
  listed PgNamespace = refl
  listed PgType = refl
  listed PgEnum = refl
  listed PgClass = refl
  listed PgAttribute = refl
  listed PgAttrdef = refl
  listed PgConstraint = refl
  listed PgIndex = refl
  listed PgSequence = refl
  listed PgRewrite = refl
  listed PgDescription = refl
  listed PgDepend = refl

  apart : (a b : ExportFile) → same (file_name a) (file_name b) ≡ false → same (file_of folder a) (file_of folder b) ≡ false
  apart a b e = in_folder folder a b ∙ e

  other : (a b : ExportFile) → same (file_name b) (file_name a) ≡ false → same (file_of folder a) (file_of folder b) ≡ false
  other a b e = in_folder folder a b ∙ flipped (file_name a) (file_name b) ∙ e

  holds : (name text : Bytes) → Agree name text ((stored ++ tables) ++ marker_written folder ∷ []) → has_name name ((stored ++ tables) ++ marker_written folder ∷ []) ≡ true → text_at (folder_saved folder texts tree) name ≡ Some text
  holds name text agree there = ap (λ (files : List File). text_at (saved files tree) name) files_are ∙ held ((stored ++ tables) ++ marker_written folder ∷ []) tree name text agree (inr there)

  pub saved_holds : HoldsTexts folder (folder_saved folder texts tree) cat rows (λ table. (found table).text)
  saved_holds = record {
    marked = holds (file_of folder Marker) marker
        (agree_both (file_of folder Marker) marker (stored ++ tables) (marker_written folder ∷ [])
        (agree_both (file_of folder Marker) marker stored tables
        (others_agree (data_written folder) (file_of folder Marker) marker (λ d. other Marker (Data d.oid) (data_or_marker d.oid)) (map (put_text rows) oids))
        (others_agree (table_written folder) (file_of folder Marker) marker (λ t. apart Marker (Table t.table) (marker_or_table t.table)) texts.tables))
        (λ e. refl, tt))
        (has_second (file_of folder Marker) (stored ++ tables) (marker_written folder ∷ []) (ap (λ (c : Bool). c || false) (itself (file_of folder Marker))));
    tables = λ table. holds (file_of folder (Table table)) (found table).text
        (agree_both (file_of folder (Table table)) (found table).text (stored ++ tables) (marker_written folder ∷ [])
        (agree_both (file_of folder (Table table)) (found table).text stored tables
        (others_agree (data_written folder) (file_of folder (Table table)) (found table).text (λ d. other (Table table) (Data d.oid) (data_or_table d.oid table)) (map (put_text rows) oids))
        (tables_agree table texts.tables are.written))
        (λ e. absurd (true≢false (sym e ∙ other (Table table) Marker (marker_or_table table))), tt))
        (has_first (file_of folder (Table table)) (stored ++ tables) (marker_written folder ∷ [])
        (has_second (file_of folder (Table table)) stored tables (table_there table texts.tables (ap (list_any (λ (t : SysTable). same (file_name (Table table)) (file_name (Table t)))) are.tables ∙ listed table))));
    put = λ oid has. holds (file_of folder (Data oid)) (text_put rows oid)
        (agree_both (file_of folder (Data oid)) (text_put rows oid) (stored ++ tables) (marker_written folder ∷ [])
        (agree_both (file_of folder (Data oid)) (text_put rows oid) stored tables
        (data_agree oid (of_oid (λ o. o < 4294967296) oids small oid has) oids small)
        (others_agree (table_written folder) (file_of folder (Data oid)) (text_put rows oid) (λ t. apart (Data oid) (Table t.table) (data_or_table oid t.table)) texts.tables))
        (λ e. absurd (true≢false (sym e ∙ apart (Data oid) Marker (data_or_marker oid))), tt))
        (has_first (file_of folder (Data oid)) (stored ++ tables) (marker_written folder ∷ [])
        (has_first (file_of folder (Data oid)) stored tables (data_there oid oids has)));
  }

-- ---- steps that are taken alike

each_same : {A B : Type 0} (f g : A → Result B FolderFault) → ((x : A) → f x ≡ g x) → (xs : List A) → each_of f xs ≡ each_of g xs
unfolding each_of
each_same f g e [] = refl
each_same f g e (x ∷ xs) =
    ap (λ r. r >>= λ y. each_of f xs >>= λ ys. Ok (y ∷ ys)) (e x)
    ∙ ap (λ r. g x >>= λ y. r >>= λ ys. Ok (y ∷ ys)) (each_same f g e xs)

-- what the step for the first gave, and those for the others
pub record Both {A B : Type 0} (step : A → Result B FolderFault) (x : A) (xs : List A) (ys : List B) : Type 0 where
  pub first : B
  pub more : List B
  pub gave : step x ≡ Ok first
  pub went_on : each_of step xs ≡ Ok more
  pub are : first ∷ more ≡ ys

pub first_step : {A B : Type 0} (step : A → Result B FolderFault) (x : A) (xs : List A) (ys : List B) → each_of step (x ∷ xs) ≡ Ok ys → Both step x xs ys
unfolding each_of
first_step step x xs ys is =
    let one = bind_ok (step x) (λ y. each_of step xs >>= λ l. Ok (y ∷ l)) ys is in
    let more = bind_ok (each_of step xs) (λ l. Ok (one.0 ∷ l)) ys one.2 in
    record { first = one.0; more = more.0; gave = one.1; went_on = more.1; are = ok_same (one.0 ∷ more.0) ys more.2 }

-- two rounds of steps, of which the second gives this of each
rounds : {A B C : Type 0} (f : A → Result B FolderFault) (g : B → Result C FolderFault) (h : A → C) → ((x : A) (y : B) → f x ≡ Ok y → g y ≡ Ok (h x))
    → (xs : List A) (ys : List B) (zs : List C) → each_of f xs ≡ Ok ys → each_of g ys ≡ Ok zs → zs ≡ map h xs
unfolding each_of
rounds {B = B} f g h gives [] ys zs one two = sym (ok_same [] zs (subst (λ (l : List B). each_of g l ≡ Ok zs) (sym (ok_same [] ys one)) two))
rounds {B = B} {C = C} f g h gives (x ∷ xs) ys zs one two =
    let a = first_step f x xs ys one in
    let b = first_step g a.first a.more zs (subst (λ (l : List B). each_of g l ≡ Ok zs) (sym a.are) two) in
    let head : b.first ≡ h x = ok_same b.first (h x) (sym b.gave ∙ gives x a.first a.gave) in
    let tail : b.more ≡ map h xs = rounds f g h gives xs a.more b.more a.went_on b.went_on in
    sym b.are ∙ ap (λ (z : C). z ∷ b.more) head ∙ ap (λ (l : List C). h x ∷ l) tail

sum_same : {A : Type 0} (f g : A → ℕ) (xs : List A) → AllByRecursion (λ x. f x ≡ g x) xs → sum_by f xs ≡ sum_by g xs
sum_same f g [] all = refl
sum_same f g (x ∷ xs) all = sum_by-cons f x xs ∙ ap (λ (n : ℕ). n + sum_by f xs) all.0 ∙ ap (λ (n : ℕ). g x + n) (sum_same f g xs all.1) ∙ sym (sum_by-cons g x xs)

each_table : (P : ExportFile → Type 0) → ((table : SysTable) → P (Table table)) → (tables : List SysTable) → AllByRecursion P (map Table tables)
each_table P all [] = tt
each_table P all (table ∷ tables) = (all table, each_table P all tables)

-- ---- the catalogue

-- the rows of each table, as they were written
abbrev pub rows_written : (cat : Catalogue) → ((table : SysTable) → TableFound cat table) → List (List (List Cell))
rows_written cat found = map (λ table. (found table).is.rows) all_tables

module _ (folder : Bytes) (tree : Tree) (cat : Catalogue) (rows : TextsByOid) (found : (table : SysTable) → TableFound cat table) (holds : HoldsTexts folder tree cat rows (λ table. (found table).text)) where
  pub table_reads : (table : SysTable) (t : TextOfTable) → text_of folder tree table ≡ Ok t → rows_of t ≡ Ok (found table).is.rows
  unfolding text_of file_text
  table_reads table t is =
      let read = bind_ok (file_text TableFile folder tree (Table table)) (λ bytes. Ok (record { table = table; text = bytes })) t is in
      let there = within_ok TableFile (file_of folder (Table table)) (text_at tree (file_of folder (Table table))) read.0 read.1 in
      let both : Some (found table).text ≡ Some read.0 = sym (holds.tables table) ∙ there.0 in
      let text : (found table).text ≡ read.0 = cc in
      let written = (found table).is.written in
      ap rows_of (sym (ok_same (record { table = table; text = read.0 }) t read.2))
      ∙ ap (λ (b : Bytes). placed table (table_of table b)) (sym text ∙ written.text)
      ∙ ap (placed table) written.reads

  -- where the tables are read, these are their rows
  pub tables_read : (tables : List (List (List Cell))) → catalogue_of folder tree ≡ Ok tables → tables ≡ rows_written cat found
  unfolding catalogue_of texts_of tables_of
  tables_read tables is =
      let mark = bind_ok (marker_of folder tree) (λ done. texts_of folder tree >>= tables_of) tables is in
      let texts = bind_ok (texts_of folder tree) tables_of tables mark.2 in
      rounds (text_of folder tree) rows_of (λ table. (found table).is.rows) table_reads all_tables texts.0 tables texts.1 texts.2

-- the tables of the catalogue that is read are those of the one that was written
pub oids_stay : (cat : Catalogue) (found : (table : SysTable) → TableFound cat table) → table_oids (catalogue_with (rows_written cat found)) ≡ table_oids cat
unfolding catalogue_with
oids_stay cat found = tables_stay cat (catalogue_with (rows_written cat found)) (found PgClass).is.rows (found PgClass).is.written.order.permutation refl

-- ---- two folders

module _ (cat : Catalogue) (rows : TextsByOid) (text : SysTable → Bytes) (folder other : Bytes) (tree before : Tree) (one : HoldsTexts folder tree cat rows text) (two : HoldsTexts other before cat rows text) where
  file_same : (limit : FolderLimit) (file : ExportFile) (bytes : Bytes) → text_at tree (file_of folder file) ≡ Some bytes → text_at before (file_of other file) ≡ Some bytes → file_text limit folder tree file ≡ file_text limit other before file
  unfolding file_text
  file_same limit file bytes a b = ap (within limit (file_of folder file)) a ∙ sym (ap (within limit (file_of other file)) b)

  length_same : (file : ExportFile) (bytes : Bytes) → text_at tree (file_of folder file) ≡ Some bytes → text_at before (file_of other file) ≡ Some bytes → file_length folder tree file ≡ file_length other before file
  length_same file bytes a b = ap (λ (o : Option Bytes). length (unwrap_or o [])) (a ∙ sym b)

  text_same : (table : SysTable) → text_of folder tree table ≡ text_of other before table
  unfolding text_of
  text_same table = ap (λ r. r >>= λ bytes. Ok (record { table = table; text = bytes })) (file_same TableFile (Table table) (text table) (one.tables table) (two.tables table))

  marker_same : marker_of folder tree ≡ marker_of other before
  unfolding marker_of
  marker_same = ap (marked (file_of folder Marker)) one.marked ∙ sym (ap (marked (file_of other Marker)) two.marked)

  pub catalogue_same : catalogue_of folder tree ≡ catalogue_of other before
  unfolding catalogue_of texts_of
  catalogue_same =
      ap (λ r. r >>= λ done. texts_of folder tree >>= tables_of) marker_same
      ∙ ap (λ r. marker_of other before >>= λ done. r >>= tables_of) (each_same (text_of folder tree) (text_of other before) text_same all_tables)

  pub bytes_same : bytes_of folder tree ≡ bytes_of other before
  unfolding bytes_of
  bytes_same =
      sum_same (file_length folder tree) (file_length other before) catalogue_files
      (length_same Marker marker one.marked two.marked, each_table (λ file. file_length folder tree file ≡ file_length other before file) (λ table. length_same (Table table) (text table) (one.tables table) (two.tables table)) all_tables)

  data_same : (oid : ℕ) → has_oid (table_oids cat) oid ≡ true → data_text folder tree oid ≡ data_text other before oid
  data_same oid has = file_same DataFile (Data oid) (text_put rows oid) (one.put oid has) (two.put oid has)

  pub texts_same : (used : ℕ) (oids : List ℕ) → AllByRecursion (λ oid. has_oid (table_oids cat) oid ≡ true) oids → texts_from folder tree used oids ≡ texts_from other before used oids
  unfolding texts_from
  texts_same used [] all = refl
  texts_same used (oid ∷ oids) all =
      ap (λ r. r >>= λ bytes. total_of (used + length bytes) >>= λ done. texts_from folder tree (used + length bytes) oids >>= λ texts. Ok ((oid, bytes) ∷ texts)) (data_same oid all.0)
      ∙ by (data_text other before oid) (λ used. texts_same used oids all.1)
    where
      by : (r : Result Bytes FolderFault) → ((used : ℕ) → texts_from folder tree used oids ≡ texts_from other before used oids)
          → (r >>= λ bytes. total_of (used + length bytes) >>= λ done. texts_from folder tree (used + length bytes) oids >>= λ texts. Ok ((oid, bytes) ∷ texts))
          ≡ (r >>= λ bytes. total_of (used + length bytes) >>= λ done. texts_from other before (used + length bytes) oids >>= λ texts. Ok ((oid, bytes) ∷ texts))
      by (Ok bytes) more = ap (λ t. total_of (used + length bytes) >>= λ done. t >>= λ texts. Ok ((oid, bytes) ∷ texts)) (more (used + length bytes))
      by (Err fault) more = refl

  -- the rows of a catalogue with the same tables
  pub data_of_same : (used : ℕ) (read : Catalogue) → table_oids read ≡ table_oids cat → data_of folder used read tree ≡ data_of other used read before
  unfolding data_of rows_from
  data_of_same used read oids =
      ap (λ t. total_of used >>= λ done. t >>= λ texts. Ok (from_entries texts))
      (texts_same used (table_oids read) (subst (λ (l : List ℕ). AllByRecursion (λ oid. has_oid (table_oids cat) oid ≡ true) l) (sym oids) (each_among (table_oids cat) (table_oids cat) (λ oid has. has))))
