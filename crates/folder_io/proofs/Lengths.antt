-- How many bytes the files of the catalogue have together.
use Rattle.std.proofs.Common.{◌≡◌, ℕ, ◌+◌, ◌*◌, ◌≤◌, List, [], ◌∷◌, ◌++◌, length, map, Option, Some, unwrap_or, Ok, sym, ap, ◌∙◌, arith}
use Rattle.std.specs.List.{sum_by}
use Rattle.std.proofs.lemmas.List.Sums.{sum_by-cons, sum_by_push}
use Rattle.dump_ports.specs.Tree.{Tree, text_at}
use Rattle.cat_rows.specs.declared.table.SysTable.{SysTable}
use Rattle.folder_io.specs.declared.file.ExportFile.TheVariants.{Marker, Table}
use Rattle.folder_io.specs.declared.fault.FolderLimit.TheVariants.{TableFile}
use Rattle.folder_io.specs.Answers.{◌>>=◌, each_of}
use Rattle.folder_io.specs.Folders.{Bytes, TextOfTable, all_tables, marker_of, file_of, file_text, file_length, table_limit, text_of, texts_of, texts_length, bytes_of}
use Rattle.folder_io.proofs.Standing.{bind_ok, ok_same, within_ok, marked_ok}

found_length : (found : Option Bytes) (text : Bytes) → found ≡ Some text → length (unwrap_or found []) ≡ length text
found_length found text is = ap (λ o. length (unwrap_or o [])) is

marker_length : (folder : Bytes) (tree : Tree) (done : Unit {0}) → marker_of folder tree ≡ Ok done → file_length folder tree Marker ≡ 2
unfolding marker_of
marker_length folder tree done is = found_length (text_at tree (file_of folder Marker)) _ (marked_ok (file_of folder Marker) (text_at tree (file_of folder Marker)) done is)

table_length : (folder : Bytes) (tree : Tree) (table : SysTable) (text : TextOfTable) → text_of folder tree table ≡ Ok text → file_length folder tree (Table table) ≡ length text.text
unfolding text_of file_text
table_length folder tree table text is =
    let read = bind_ok (file_text TableFile folder tree (Table table)) (λ bytes. Ok (record { table = table; text = bytes })) text is in
    let same = ok_same _ _ read.2 in
    found_length (text_at tree (file_of folder (Table table))) read.0 (within_ok TableFile (file_of folder (Table table)) (text_at tree (file_of folder (Table table))) read.0 read.1).0
    ∙ ap (λ (t : TextOfTable). length t.text) same

tables_length : (folder : Bytes) (tree : Tree) (tables : List SysTable) (texts : List TextOfTable) → each_of (text_of folder tree) tables ≡ Ok texts → sum_by (file_length folder tree) (map Table tables) ≡ texts_length texts
unfolding each_of
tables_length folder tree [] texts is = ap texts_length (ok_same _ _ is)
tables_length folder tree (table ∷ tables) texts is =
    let one = bind_ok (text_of folder tree table) (λ y. each_of (text_of folder tree) tables >>= λ ys. Ok (y ∷ ys)) texts is in
    let more = bind_ok (each_of (text_of folder tree) tables) (λ ys. Ok (one.0 ∷ ys)) texts one.2 in
    let first = table_length folder tree table one.0 one.1 in
    let others = tables_length folder tree tables more.0 more.1 in
    let cut : one.0 ∷ more.0 ≡ texts = ok_same _ _ more.2 in
    let left : sum_by (file_length folder tree) (map Table (table ∷ tables)) ≡ file_length folder tree (Table table) + sum_by (file_length folder tree) (map Table tables) = sum_by-cons (file_length folder tree) (Table table) (map Table tables) in
    let right : texts_length (one.0 ∷ more.0) ≡ length one.0.text + texts_length more.0 = sum_by-cons (λ (t : TextOfTable). length t.text) one.0 more.0 in
    left ∙ ap (λ n. n + sum_by (file_length folder tree) (map Table tables)) first ∙ ap (λ n. length one.0.text + n) others ∙ sym right ∙ ap texts_length cut

-- the bytes of the files that were read
pub bytes_read : (folder : Bytes) (tree : Tree) (done : Unit {0}) (texts : List TextOfTable) → marker_of folder tree ≡ Ok done → texts_of folder tree ≡ Ok texts → bytes_of folder tree ≡ 2 + texts_length texts
unfolding bytes_of texts_of
bytes_read folder tree done texts mark read =
    sum_by-cons (file_length folder tree) Marker (map Table all_tables)
    ∙ ap (λ n. n + sum_by (file_length folder tree) (map Table all_tables)) (marker_length folder tree done mark)
    ∙ ap (λ n. 2 + n) (tables_length folder tree all_tables texts read)

-- one more text within the limit
pub one_more : (texts : List TextOfTable) (text : TextOfTable) (n : ℕ) → texts_length texts ≤ n * table_limit → length text.text ≤ table_limit → texts_length (texts ++ text ∷ []) ≤ (n + 1) * table_limit
one_more texts text n most limited =
    let joined : texts_length (texts ++ text ∷ []) ≡ texts_length texts + length text.text = sum_by_push (λ (t : TextOfTable). length t.text) texts text in
    omega (arith, joined)
