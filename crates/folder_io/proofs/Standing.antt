-- What a folder stands for is what is due: each table's text is found and read by itself.
use Rattle.std.proofs.Common.{◌≡◌, ℕ, ◌+◌, ◌≤◌, Bool, true, false, cond, List, [], ◌∷◌, length, map, Option, Some, None, Result, Ok, Err, nat_le, refl, sym, ap, subst, ◌∙◌, Decides}
use Rattle.std.specs.Str.{bytes_eq}
use Rattle.std.specs.List.{AllByRecursion}
use Rattle.std.proofs.lemmas.Bool.{leb-true, le-leb}
use Rattle.std.proofs.lemmas.Slice.Eq.{bytes_eq-Decides}
use Rattle.dump_ports.specs.Tree.{Tree, text_at}
use Rattle.cat_rows.specs.declared.table.SysTable.{SysTable}
use Rattle.cat_rows.specs.declared.table.SysTable.TheVariants.{PgAuthid, PgAuthMembers, PgDatabase, PgNamespace, PgType, PgEnum, PgClass, PgAttribute, PgAttrdef, PgConstraint, PgIndex, PgSequence, PgRewrite, PgDescription, PgDepend}
use Rattle.cat_rows.specs.declared.cell.Cell.{Cell}
use Rattle.cat_rows.specs.declared.fault.TableFault.{TableFault}
use Rattle.cat_rows.specs.declared.catalogue.Catalogue.{Catalogue}
use Rattle.cat_rows.specs.Reading.{table_of}
use Rattle.cat_rows.specs.Catalogues.{rows_in}
use Rattle.folder_io.specs.declared.file.ExportFile.TheVariants.{Marker, Table}
use Rattle.folder_io.specs.declared.fault.FolderLimit.{FolderLimit}
use Rattle.folder_io.specs.declared.fault.FolderLimit.TheVariants.{TableFile}
use Rattle.folder_io.specs.declared.fault.FolderFault.{FolderFault}
use Rattle.folder_io.specs.declared.fault.FolderFault.TheVariants.{TooLarge, BadExport}
use Rattle.folder_io.specs.declared.fault.ExportKind.TheVariants.{Version}
use Rattle.folder_io.specs.Answers.{◌>>=◌, each_of}
use Rattle.folder_io.specs.Folders.{Bytes, TextOfTable, all_tables, file_of, marker, marked, marker_of, most_bytes, table_limit, within, file_text, text_of, texts_of, placed, rows_of, tables_of, catalogue_rows, catalogue_of, HoldsTable, StandsFor}

pub bind_ok : {A B : Type 0} (r : Result A FolderFault) (f : A → Result B FolderFault) (y : B) → (r >>= f) ≡ Ok y → (x : A) × (r ≡ Ok x) × (f x ≡ Ok y)
bind_ok (Ok x) f y e = (x, refl, e)
bind_ok (Err o) f y e = absurd cc

-- ---- two rounds of steps, the second over what the first gave

abbrev Both : {A B C : Type 0} → (A → Result B FolderFault) → (B → Result C FolderFault) → (A → C) → A → Type 0
Both {B = B} f g h x = (y : B) × (f x ≡ Ok y) × (g y ≡ Ok (h x))

pub ok_same : {A : Type 0} (x y : A) → ◌≡◌ {A = Result A FolderFault} (Ok x) (Ok y) → x ≡ y
ok_same x y e = cc

both_rounds : {A B C : Type 0} (f : A → Result B FolderFault) (g : B → Result C FolderFault) (h : A → C) (xs : List A) (ys : List B)
    → each_of f xs ≡ Ok ys → each_of g ys ≡ Ok (map h xs) → AllByRecursion (Both f g h) xs
unfolding each_of
both_rounds f g h [] ys e1 e2 = tt
both_rounds {A} {B} {C} f g h (x ∷ xs) ys e1 e2 =
    let one = bind_ok (f x) (λ y. each_of f xs >>= λ ys. Ok (y ∷ ys)) ys e1 in
    let more = bind_ok (each_of f xs) (λ ys. Ok (one.0 ∷ ys)) ys one.2 in
    let cut : one.0 ∷ more.0 ≡ ys = ok_same _ _ more.2 in
    let second = bind_ok (g one.0) (λ z. each_of g more.0 >>= λ zs. Ok (z ∷ zs)) (h x ∷ map h xs) (ap (each_of g) cut ∙ e2) in
    let rest = bind_ok (each_of g more.0) (λ zs. Ok (second.0 ∷ zs)) (h x ∷ map h xs) second.2 in
    let same : second.0 ∷ rest.0 ≡ h x ∷ map h xs = ok_same _ _ rest.2 in
    ((one.0, one.1, second.1 ∙ ap Ok (heads same)), both_rounds f g h xs more.0 more.1 (rest.1 ∙ ap Ok (tails same)))
  where
    heads : {z w : C} {zs ws : List C} → z ∷ zs ≡ w ∷ ws → z ≡ w
    heads e = cc

    tails : {z w : C} {zs ws : List C} → z ∷ zs ≡ w ∷ ws → zs ≡ ws
    tails e = cc

each_ok : {A B C : Type 0} (g : B → Result C FolderFault) (k : A → B) (h : A → C) (xs : List A) → ((x : A) → g (k x) ≡ Ok (h x)) → each_of g (map k xs) ≡ Ok (map h xs)
unfolding each_of
each_ok g k h [] all = refl
each_ok g k h (x ∷ xs) all =
    ap (λ r. r >>= λ z. each_of g (map k xs) >>= λ zs. Ok (z ∷ zs)) (all x)
    ∙ ap (λ r. r >>= λ zs. Ok (h x ∷ zs)) (each_ok g k h xs all)

map_itself : {A : Type 0} (xs : List A) → map (λ x. x) xs ≡ xs
map_itself [] = refl
map_itself (x ∷ xs) = ap (λ ys. x ∷ ys) (map_itself xs)

-- ---- a table

pub within_ok : (limit : FolderLimit) (name : Bytes) (found : Option Bytes) (text : Bytes) → within limit name found ≡ Ok text → (found ≡ Some text) × (length text ≤ most_bytes limit)
within_ok limit name None text e = absurd cc
within_ok limit name (Some bytes) text e = by (nat_le (length bytes) (most_bytes limit)) refl e
  where
    by : (b : Bool) → nat_le (length bytes) (most_bytes limit) ≡ b → cond {A = Result Bytes FolderFault} b (Ok bytes) (Err (TooLarge limit (most_bytes limit + 1))) ≡ Ok text
        → (Some bytes ≡ Some text) × (length text ≤ most_bytes limit)
    by false l e = absurd cc
    by true l e =
        let same = ok_same _ _ e in
        (ap Some same, subst (λ (t : Bytes). length t ≤ most_bytes limit) same (leb-true _ _ l))

placed_ok : (table : SysTable) (read : Result (List (List Cell)) TableFault) (rows : List (List Cell)) → placed table read ≡ Ok rows → read ≡ Ok rows
placed_ok table (Ok x) rows e = cc
placed_ok table (Err first) rows e = absurd cc

table_held : (folder : Bytes) (tree : Tree) (cat : Catalogue) (table : SysTable) → Both (text_of folder tree) rows_of (λ t. rows_in t cat) table → HoldsTable folder tree table (rows_in table cat)
unfolding text_of file_text
table_held folder tree cat table both =
    let read = bind_ok (file_text TableFile folder tree (Table table)) (λ bytes. Ok (record { table = table; text = bytes })) both.0 both.1 in
    let found = within_ok TableFile (file_of folder (Table table)) (text_at tree (file_of folder (Table table))) read.0 read.1 in
    record {
      text = read.0;
      there = found.0;
      fits = found.1;
      reads = placed_ok table (table_of table read.0) (rows_in table cat) (ap rows_of (ok_same _ _ read.2) ∙ both.2);
    }

-- ---- the folder

pub marked_ok : (name : Bytes) (found : Option Bytes) (done : Unit {0}) → marked name found ≡ Ok done → found ≡ Some marker
marked_ok name None done e = absurd cc
marked_ok name (Some text) done e = by (bytes_eq text marker) (bytes_eq-Decides text marker) e
  where
    by : (b : Bool) → Decides b (text ≡ marker) → cond {A = Result (Unit {0}) FolderFault} b (Ok tt) (Err (BadExport Marker 1 Version)) ≡ Ok done → Some text ≡ Some marker
    by true d e = ap Some (d.0 refl)
    by false d e = absurd cc

every : (P : SysTable → Type 0) → AllByRecursion P all_tables → (table : SysTable) → P table
every P all PgAuthid = all.0
every P all PgAuthMembers = all.1.0
every P all PgDatabase = all.1.1.0
every P all PgNamespace = all.1.1.1.0
every P all PgType = all.1.1.1.1.0
every P all PgEnum = all.1.1.1.1.1.0
every P all PgClass = all.1.1.1.1.1.1.0
every P all PgAttribute = all.1.1.1.1.1.1.1.0
every P all PgAttrdef = all.1.1.1.1.1.1.1.1.0
every P all PgConstraint = all.1.1.1.1.1.1.1.1.1.0
every P all PgIndex = all.1.1.1.1.1.1.1.1.1.1.0
every P all PgSequence = all.1.1.1.1.1.1.1.1.1.1.1.0
every P all PgRewrite = all.1.1.1.1.1.1.1.1.1.1.1.1.0
every P all PgDescription = all.1.1.1.1.1.1.1.1.1.1.1.1.1.0
every P all PgDepend = all.1.1.1.1.1.1.1.1.1.1.1.1.1.1.0

pub read_stands : (folder : Bytes) (tree : Tree) (cat : Catalogue) → catalogue_of folder tree ≡ Ok (catalogue_rows cat) → StandsFor folder tree cat
unfolding catalogue_of marker_of texts_of tables_of
read_stands folder tree cat e =
    let mark = bind_ok (marker_of folder tree) (λ done. texts_of folder tree >>= tables_of) (catalogue_rows cat) e in
    let texts = bind_ok (texts_of folder tree) tables_of (catalogue_rows cat) mark.2 in
    record {
      marked = marked_ok (file_of folder Marker) (text_at tree (file_of folder Marker)) mark.0 mark.1;
      tables = λ table. table_held folder tree cat table (every (Both (text_of folder tree) rows_of (λ t. rows_in t cat)) (both_rounds (text_of folder tree) rows_of (λ t. rows_in t cat) all_tables texts.0 texts.1 texts.2) table);
    }

abbrev held_text : (folder : Bytes) (tree : Tree) (cat : Catalogue) → StandsFor folder tree cat → SysTable → TextOfTable
held_text folder tree cat stands table = record { table = table; text = (stands.tables table).text }

text_found : (folder : Bytes) (tree : Tree) (cat : Catalogue) (stands : StandsFor folder tree cat) (table : SysTable) → text_of folder tree table ≡ Ok (held_text folder tree cat stands table)
unfolding text_of file_text
text_found folder tree cat stands table =
    let holds = stands.tables table in
    let made : Result Bytes FolderFault → Result TextOfTable FolderFault = λ r. r >>= λ bytes. Ok (record { table = table; text = bytes }) in
    ap (λ found. made (within TableFile (file_of folder (Table table)) found)) holds.there
    ∙ ap (λ b. made (cond {A = Result Bytes FolderFault} b (Ok holds.text) (Err (TooLarge TableFile (table_limit + 1))))) (fits (nat_le (length holds.text) table_limit) refl holds.fits)
  where
    fits : {n : ℕ} (b : Bool) → nat_le n table_limit ≡ b → n ≤ table_limit → b ≡ true
    fits true l h = refl
    fits false l h = sym l ∙ le-leb _ _ h

pub stands_read : (folder : Bytes) (tree : Tree) (cat : Catalogue) → StandsFor folder tree cat → catalogue_of folder tree ≡ Ok (catalogue_rows cat)
unfolding catalogue_of marker_of texts_of tables_of
stands_read folder tree cat stands =
    let mark : marker_of folder tree ≡ Ok tt = ap (marked (file_of folder Marker)) stands.marked ∙ refl in
    let texts : texts_of folder tree ≡ Ok (map (held_text folder tree cat stands) all_tables) =
    ap (each_of (text_of folder tree)) (sym (map_itself all_tables)) ∙ each_ok (text_of folder tree) (λ t. t) (held_text folder tree cat stands) all_tables (text_found folder tree cat stands) in
    ap (λ r. r >>= λ done. texts_of folder tree >>= tables_of) mark
    ∙ ap (λ r. r >>= tables_of) texts
    ∙ each_ok rows_of (held_text folder tree cat stands) (λ t. rows_in t cat) all_tables (λ t. ap (placed t) (stands.tables t).reads)
