-- Folders that hold the same texts are read alike, file by file.
use Rattle.std.proofs.Common.{◌≡◌, ℕ, ◌+◌, Bool, true, false, cond, List, [], ◌∷◌, length, map, Option, Some, None, unwrap_or, Result, Ok, Err, IsSome, refl, sym, ap, ◌∙◌}
use Rattle.std.specs.List.{AllByRecursion, sum_by}
use Rattle.std.specs.FinMap.{get, from_entries}
use Rattle.std.proofs.lemmas.Bool.{true≢false}
use Rattle.std.proofs.lemmas.List.Elements.{recursion_from_All}
use Rattle.std.proofs.lemmas.List.Sums.{sum_by-cons}
use Rattle.dump_ports.specs.Tree.{Tree, text_at, bytes_at}
use Rattle.cat_rows.specs.declared.table.SysTable.{SysTable}
use Rattle.cat_rows.specs.declared.catalogue.Catalogue.{Catalogue}
use Rattle.cat_names.specs.DataSets.{TextsByOid}
use Rattle.cat_names.specs.Lookups.{has_oid}
use Rattle.folder_io.specs.declared.file.ExportFile.{ExportFile}
use Rattle.folder_io.specs.declared.file.ExportFile.TheVariants.{Marker, Table, Data}
use Rattle.folder_io.specs.declared.fault.FolderLimit.{FolderLimit}
use Rattle.folder_io.specs.declared.fault.FolderLimit.TheVariants.{TableFile, DataFile}
use Rattle.folder_io.specs.declared.fault.FolderFault.{FolderFault}
use Rattle.folder_io.specs.Answers.{◌>>=◌, each_of}
use Rattle.folder_io.specs.Folders.{Bytes, TextOfTable, all_tables, marked, marker_of, within, file_of, file_text, file_length, text_of, texts_of, tables_of, bytes_of, catalogue_of}
use Rattle.table_rows.specs.Tables.{table_oids}
use Rattle.folder_rows.specs.Reading.{data_text, total_of, texts_from, rows_from, data_of}
use Rattle.folder_rows.specs.Holding.{HoldsRows}
use Rattle.same_texts.specs.Alike.{HasSame, IsData}

module _ (first second : Bytes) (tree : Tree) where
  -- ---- one file

  same_file : (limit : FolderLimit) (file : ExportFile) → HasSame first second tree file → file_text limit second tree file ≡ file_text limit first tree file
  unfolding file_text
  same_file limit file same = ap (within limit (file_of second file)) same.other ∙ sym (ap (within limit (file_of first file)) same.one)

  same_marker : HasSame first second tree Marker → marker_of second tree ≡ marker_of first tree
  unfolding marker_of
  same_marker same = ap (marked (file_of second Marker)) same.other ∙ sym (ap (marked (file_of first Marker)) same.one)

  same_length : (file : ExportFile) → HasSame first second tree file → file_length second tree file ≡ file_length first tree file
  same_length file same = ap (λ (o : Option Bytes). length (unwrap_or o [])) (same.other ∙ sym same.one)

  -- ---- the system tables

  same_table : (table : SysTable) → HasSame first second tree (Table table) → text_of second tree table ≡ text_of first tree table
  unfolding text_of
  same_table table same = ap (λ (r : Result Bytes FolderFault). r >>= λ text. Ok (record { table = table; text = text })) (same_file TableFile (Table table) same)

  same_each : (tables : List SysTable) → AllByRecursion (λ table. HasSame first second tree (Table table)) tables → each_of (text_of second tree) tables ≡ each_of (text_of first tree) tables
  unfolding each_of
  same_each [] all = refl
  same_each (table ∷ tables) all =
      ap (λ (r : Result TextOfTable FolderFault). r >>= λ y. each_of (text_of second tree) tables >>= λ ys. Ok (y ∷ ys)) (same_table table all.0)
      ∙ ap (λ (r : Result (List TextOfTable) FolderFault). text_of first tree table >>= λ y. r >>= λ ys. Ok (y ∷ ys)) (same_each tables all.1)

  pub same_catalogue : HasSame first second tree Marker → AllByRecursion (λ table. HasSame first second tree (Table table)) all_tables → catalogue_of second tree ≡ catalogue_of first tree
  unfolding catalogue_of texts_of
  same_catalogue marker tables =
      ap (λ (r : Result (Unit {0}) FolderFault). r >>= λ done. each_of (text_of second tree) all_tables >>= tables_of) (same_marker marker)
      ∙ ap (λ (r : Result (List TextOfTable) FolderFault). marker_of first tree >>= λ done. r >>= tables_of) (same_each all_tables tables)

  same_lengths : (tables : List SysTable) → AllByRecursion (λ table. HasSame first second tree (Table table)) tables → sum_by (file_length second tree) (map Table tables) ≡ sum_by (file_length first tree) (map Table tables)
  same_lengths [] all = refl
  same_lengths (table ∷ tables) all =
      sum_by-cons (file_length second tree) (Table table) (map Table tables)
      ∙ ap (λ n. n + sum_by (file_length second tree) (map Table tables)) (same_length (Table table) all.0)
      ∙ ap (λ n. file_length first tree (Table table) + n) (same_lengths tables all.1)
      ∙ sym (sum_by-cons (file_length first tree) (Table table) (map Table tables))

  pub same_bytes : HasSame first second tree Marker → AllByRecursion (λ table. HasSame first second tree (Table table)) all_tables → bytes_of second tree ≡ bytes_of first tree
  unfolding bytes_of
  same_bytes marker tables =
      sum_by-cons (file_length second tree) Marker (map Table all_tables)
      ∙ ap (λ n. n + sum_by (file_length second tree) (map Table all_tables)) (same_length Marker marker)
      ∙ ap (λ n. file_length first tree Marker + n) (same_lengths all_tables tables)
      ∙ sym (sum_by-cons (file_length first tree) Marker (map Table all_tables))

  -- ---- the data files

  same_behind : (used oid : ℕ) (oids : List ℕ) (r : Result Bytes FolderFault) → ((more : ℕ) → texts_from second tree more oids ≡ texts_from first tree more oids)
      → (r >>= λ text. total_of (used + length text) >>= λ done. texts_from second tree (used + length text) oids >>= λ texts. Ok ((oid, text) ∷ texts)) ≡ (r >>= λ text. total_of (used + length text) >>= λ done. texts_from first tree (used + length text) oids >>= λ texts. Ok ((oid, text) ∷ texts))
  same_behind used oid oids (Ok text) same = ap (λ (r : Result (List (ℕ × Bytes)) FolderFault). total_of (used + length text) >>= λ done. r >>= λ texts. Ok ((oid, text) ∷ texts)) (same (used + length text))
  same_behind used oid oids (Err fault) same = refl

  same_texts : (used : ℕ) (oids : List ℕ) → AllByRecursion (λ oid. HasSame first second tree (Data oid)) oids → texts_from second tree used oids ≡ texts_from first tree used oids
  unfolding texts_from
  same_texts used [] all = refl
  same_texts used (oid ∷ oids) all =
      ap (λ (r : Result Bytes FolderFault). r >>= λ text. total_of (used + length text) >>= λ done. texts_from second tree (used + length text) oids >>= λ texts. Ok ((oid, text) ∷ texts)) (same_file DataFile (Data oid) all.0)
      ∙ same_behind used oid oids (data_text first tree oid) (λ more. same_texts more oids all.1)

  -- the text that is held for a table is the one that was read
  read_text : (oids : List ℕ) (rows : TextsByOid) (oid : ℕ) → get rows oid ≡ cond (has_oid oids oid) (Some (bytes_at tree (file_of first (Data oid)))) None → IsSome (text_at tree (file_of first (Data oid))) → IsData second tree rows oid → HasSame first second tree (Data oid)
  read_text oids rows oid found some data_file = record {
    text = data_file.text;
    one = whole (text_at tree (file_of first (Data oid))) some ∙ is (has_oid oids oid) (sym found ∙ data_file.held);
    other = data_file.there;
  }
    where
      whole : (o : Option Bytes) → IsSome o → o ≡ Some (unwrap_or o [])
      whole None s = absurd (true≢false (sym s))
      whole (Some text) s = refl

      is : (b : Bool) → cond b (Some (bytes_at tree (file_of first (Data oid)))) None ≡ Some data_file.text → Some (bytes_at tree (file_of first (Data oid))) ≡ Some data_file.text
      is true e = e
      is false e = absurd cc

  read_texts : (all rest : List ℕ) (rows : TextsByOid) → ((oid : ℕ) → get rows oid ≡ cond (has_oid all oid) (Some (bytes_at tree (file_of first (Data oid)))) None)
      → AllByRecursion (λ oid. IsSome (text_at tree (file_of first (Data oid)))) rest → AllByRecursion (IsData second tree rows) rest → AllByRecursion (λ oid. HasSame first second tree (Data oid)) rest
  read_texts all [] rows found there are = tt
  read_texts all (oid ∷ rest) rows found there are = (read_text all rows oid (found oid) there.0 are.0, read_texts all rest rows found there.1 are.1)

  pub same_rows : (used : ℕ) (cat : Catalogue) (rows : TextsByOid) → HoldsRows first used cat tree rows → AllByRecursion (IsData second tree rows) (table_oids cat) → data_of second used cat tree ≡ data_of first used cat tree
  unfolding data_of rows_from
  same_rows used cat rows holds are =
      let oids = table_oids cat in
      ap (λ (r : Result (List (ℕ × Bytes)) FolderFault). total_of used >>= λ done. r >>= λ texts. Ok (from_entries texts))
      (same_texts used oids (read_texts oids oids rows holds.texts (recursion_from_All (λ oid. IsSome (text_at tree (file_of first (Data oid)))) oids holds.there) are))
