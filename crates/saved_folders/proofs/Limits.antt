-- A folder that holds the texts of a catalogue and its rows is refused for a limit alone, up to what its rows say.
use Rattle.std.proofs.Common.{◌≡◌, ℕ, ◌+◌, true, List, [], ◌∷◌, length, map, Option, Some, Result, Ok, Err, refl, sym, ap, subst, ◌∙◌}
use Rattle.std.specs.Prelude.{nat_le}
use Rattle.std.specs.List.{AllByRecursion}
use Rattle.std.specs.FinMap.{from_entries}
use Rattle.std.proofs.lemmas.Bool.{cond_both}
use Rattle.dump_ports.specs.Tree.{Tree, text_at}
use Rattle.cat_rows.specs.declared.table.SysTable.{SysTable}
use Rattle.cat_rows.specs.declared.catalogue.Catalogue.{Catalogue}
use Rattle.cat_names.specs.DataSets.{TextsByOid}
use Rattle.cat_names.specs.Lookups.{has_oid}
use Rattle.table_rows.specs.Tables.{table_oids}
use Rattle.table_rows.specs.Values.{text_of as text_put}
use Rattle.folder_io.specs.declared.file.ExportFile.{ExportFile}
use Rattle.folder_io.specs.declared.file.ExportFile.TheVariants.{Marker, Table, Data}
use Rattle.folder_io.specs.declared.fault.FolderFault.{FolderFault}
use Rattle.folder_io.specs.declared.fault.FolderFault.TheVariants.{Failed, Missing, BadExport, TooLarge, Memory}
use Rattle.folder_io.specs.declared.fault.FolderLimit.{FolderLimit}
use Rattle.folder_io.specs.declared.fault.FolderLimit.TheVariants.{TableFile, DataFile, Folder}
use Rattle.folder_io.specs.Answers.{◌>>=◌, each_of}
use Rattle.folder_io.specs.Folders.{Bytes, all_tables, most_bytes, marked, file_of, file_text, within, text_of, texts_of, rows_of, tables_of, marker_of, catalogue_of}
use Rattle.folder_io.proofs.Standing.{ok_same}
use Rattle.folder_rows.specs.Reading.{data_text, total_of, texts_from, rows_from, data_of}
use Rattle.saved_folders.proofs.Holding.{TableFound, HoldsTexts, first_step, table_reads, each_among}

-- a step that refuses for a limit alone
abbrev pub Only : {A : Type 0} → Result A FolderFault → Type 0
Only (Ok x) = Unit {0}
Only (Err (TooLarge limit n)) = Unit {0}
Only (Err fault) = ⊥

only_next : {A B : Type 0} (r : Result A FolderFault) (next : A → Result B FolderFault) → Only r → ((x : A) → r ≡ Ok x → Only (next x)) → Only (r >>= next)
only_next (Ok x) next only after = after x refl
only_next (Err (TooLarge limit n)) next only after = tt
only_next (Err Failed) next only after = elim only [ ]
only_next (Err (Missing name)) next only after = elim only [ ]
only_next (Err (BadExport file line kind)) next only after = elim only [ ]
only_next (Err Memory) next only after = elim only [ ]

only_each : {A B : Type 0} (step : A → Result B FolderFault) → ((x : A) → Only (step x)) → (xs : List A) → Only (each_of step xs)
unfolding each_of
only_each step all [] = tt
only_each step all (x ∷ xs) =
    only_next (step x) (λ y. each_of step xs >>= λ ys. Ok (y ∷ ys)) (all x) (λ y is.
    only_next (each_of step xs) (λ ys. Ok (y ∷ ys)) (only_each step all xs) (λ ys are. tt))

-- what the second of two rounds gives
all_read : {A B C : Type 0} (f : A → Result B FolderFault) (g : B → Result C FolderFault) (h : A → C) → ((x : A) (y : B) → f x ≡ Ok y → g y ≡ Ok (h x))
    → (xs : List A) (ys : List B) → each_of f xs ≡ Ok ys → each_of g ys ≡ Ok (map h xs)
unfolding each_of
all_read {B = B} f g h gives [] ys one = subst (λ (l : List B). each_of g l ≡ Ok []) (ok_same [] ys one) refl
all_read {B = B} f g h gives (x ∷ xs) ys one =
    let a = first_step f x xs ys one in
    subst (λ (l : List B). each_of g l ≡ Ok (h x ∷ map h xs)) a.are
    (ap (λ r. r >>= λ z. each_of g a.more >>= λ zs. Ok (z ∷ zs)) (gives x a.first a.gave)
    ∙ ap (λ r. r >>= λ zs. Ok (h x ∷ zs)) (all_read f g h gives xs a.more a.went_on))

only_within : (limit : FolderLimit) (name bytes : Bytes) → Only (within limit name (Some bytes))
only_within limit name bytes = cond_both (nat_le (length bytes) (most_bytes limit)) (Ok bytes) (Err (TooLarge limit (most_bytes limit + 1))) Only (λ fits. tt) (λ past. tt)

only_total : (bytes : ℕ) → Only (total_of bytes)
only_total bytes = cond_both (nat_le bytes (most_bytes Folder)) (Ok tt) (Err (TooLarge Folder (most_bytes Folder + 1))) Only (λ fits. tt) (λ past. tt)

module _ (folder : Bytes) (tree : Tree) (cat : Catalogue) (rows : TextsByOid) (found : (table : SysTable) → TableFound cat table) (holds : HoldsTexts folder tree cat rows (λ table. (found table).text)) where
  only_file : (limit : FolderLimit) (file : ExportFile) (bytes : Bytes) → text_at tree (file_of folder file) ≡ Some bytes → Only (file_text limit folder tree file)
  unfolding file_text
  only_file limit file bytes there = subst (λ (o : Option Bytes). Only (within limit (file_of folder file) o)) (sym there) (only_within limit (file_of folder file) bytes)

  only_text : (table : SysTable) → Only (text_of folder tree table)
  unfolding text_of
  only_text table = only_next (file_text TableFile folder tree (Table table)) (λ bytes. Ok (record { table = table; text = bytes })) (only_file TableFile (Table table) (found table).text (holds.tables table)) (λ bytes is. tt)

  pub only_catalogue : Only (catalogue_of folder tree)
  unfolding catalogue_of marker_of texts_of tables_of
  only_catalogue =
      only_next (marker_of folder tree) (λ done. texts_of folder tree >>= tables_of)
      (subst Only (sym (ap (marked (file_of folder Marker)) holds.marked)) tt)
      (λ done is.
      only_next (texts_of folder tree) tables_of (only_each (text_of folder tree) only_text all_tables) (λ texts are.
      subst Only (sym (all_read (text_of folder tree) rows_of (λ table. (found table).is.rows) (table_reads folder tree cat rows found holds) all_tables texts are)) tt))

  only_texts : (used : ℕ) (oids : List ℕ) → AllByRecursion (λ oid. has_oid (table_oids cat) oid ≡ true) oids → Only (texts_from folder tree used oids)
  unfolding texts_from
  only_texts used [] all = tt
  only_texts used (oid ∷ oids) all =
      only_next (data_text folder tree oid) (λ bytes. total_of (used + length bytes) >>= λ done. texts_from folder tree (used + length bytes) oids >>= λ texts. Ok ((oid, bytes) ∷ texts))
      (only_file DataFile (Data oid) (text_put rows oid) (holds.put oid all.0))
      (λ bytes is.
      only_next (total_of (used + length bytes)) (λ done. texts_from folder tree (used + length bytes) oids >>= λ texts. Ok ((oid, bytes) ∷ texts))
      (only_total (used + length bytes))
      (λ done fits. only_next (texts_from folder tree (used + length bytes) oids) (λ texts. Ok ((oid, bytes) ∷ texts)) (only_texts (used + length bytes) oids all.1) (λ texts are. tt)))

  pub only_data : (used : ℕ) → Only (data_of folder used cat tree)
  unfolding data_of rows_from
  only_data used =
      only_next (total_of used) (λ done. texts_from folder tree used (table_oids cat) >>= λ texts. Ok (from_entries texts))
      (only_total used)
      (λ done fits.
      only_next (texts_from folder tree used (table_oids cat)) (λ texts. Ok (from_entries texts))
      (only_texts used (table_oids cat) (each_among (table_oids cat) (table_oids cat) (λ oid has. has)))
      (λ texts are. tt))
