-- A well-formed catalogue in the order of its tables, whose texts hold rows, is read as itself, or past a limit.
use Rattle.std.proofs.Common.{◌≡◌, ℕ, true, List, [], ◌∷◌, map, Option, None, Result, Ok, Err, refl, sym, ap, subst, ◌∙◌}
use Rattle.std.specs.Option.{option_or}
use Rattle.std.specs.List.{AllByRecursion}
use Rattle.dump_ports.specs.Tree.{Tree}
use Rattle.data_rows.specs.Rows.{rows_of}
use Rattle.cat_model.specs.Values.{Bytes}
use Rattle.cat_rows.specs.declared.table.SysTable.{SysTable}
use Rattle.cat_rows.specs.declared.cell.Cell.{Cell}
use Rattle.cat_rows.specs.declared.catalogue.Catalogue.{Catalogue}
use Rattle.cat_rows.specs.Catalogues.{rows_in}
use Rattle.cat_names.specs.DataSets.{TextsByOid}
use Rattle.cat_names.specs.Lookups.{has_oid}
use Rattle.cat_names.specs.declared.fault.CatFault.{CatFault}
use Rattle.well_formed.specs.Catalogues.{catalogue_fault}
use Rattle.table_rows.specs.Tables.{table_oids, column_count}
use Rattle.table_rows.specs.Values.{text_of, fault_in, first_fault, values_fault}
use Rattle.table_rows.specs.declared.fault.ValuesFault.{ValuesFault}
use Rattle.folder_io.specs.declared.fault.FolderFault.{FolderFault}
use Rattle.folder_io.specs.declared.fault.FolderFault.TheVariants.{Failed, Missing, BadExport, TooLarge, Memory}
use Rattle.folder_io.specs.Folders.{all_tables, bytes_of, catalogue_of, catalogue_rows}
use Rattle.folder_rows.specs.Reading.{data_of}
use Rattle.tool_words.specs.Answers.{◌>>=◌}
use Rattle.exports.specs.Cells.{catalogue_with}
use Rattle.exports.specs.Exports.{Exported, told, well_formed, have_rows, export_with, export_of}
use Rattle.exports.proofs.Cells.{catalogue_is}
use Rattle.saved_folders.specs.Folders.{Texts, AreTexts, folder_saved}
use Rattle.saved_folders.specs.Exports.{rows_kept, StandsInOrder, IsReadWithinLimits}
use Rattle.saved_folders.proofs.Holding.{OneOrder, CanBeWritten, TableFound, found_text, HoldsTexts, saved_holds, rows_written, tables_read, each_among}
use Rattle.saved_folders.proofs.Kept.{AreHeld, text_kept, rows_are}
use Rattle.saved_folders.proofs.Limits.{Only, only_catalogue, only_data}

-- ---- the texts that are kept hold rows

first_same : (columns : ℕ → ℕ) (cat : Catalogue) (rows : TextsByOid) (oids : List ℕ) → AllByRecursion (λ oid. has_oid (table_oids cat) oid ≡ true) oids → first_fault columns (text_of (rows_kept cat rows)) oids ≡ first_fault columns (text_of rows) oids
unfolding first_fault
first_same columns cat rows [] all = refl
first_same columns cat rows (oid ∷ oids) all =
    ap (λ (text : Bytes). option_or (fault_in oid (rows_of (columns oid) text)) (first_fault columns (text_of (rows_kept cat rows)) oids)) (text_kept cat rows oid all.0)
    ∙ ap (λ (o : Option ValuesFault). option_or (fault_in oid (rows_of (columns oid) (text_of rows oid))) o) (first_same columns cat rows oids all.1)

values_kept : (cat : Catalogue) (rows : TextsByOid) → values_fault cat (rows_kept cat rows) ≡ values_fault cat rows
unfolding values_fault
values_kept cat rows = first_same (column_count cat) cat rows (table_oids cat) (each_among (table_oids cat) (table_oids cat) (λ oid has. has))

-- ---- rows in order are written as they stand

map_same : {A B : Type 0} (f g : A → B) → ((x : A) → f x ≡ g x) → (xs : List A) → map f xs ≡ map g xs
map_same f g same [] = refl
map_same {B = B} f g same (x ∷ xs) = ap (λ (y : B). y ∷ map f xs) (same x) ∙ ap (λ (l : List B). g x ∷ l) (map_same f g same xs)

rows_stay : OneOrder → (cat : Catalogue) (found : (table : SysTable) → TableFound cat table) → StandsInOrder cat → rows_written cat found ≡ catalogue_rows cat
rows_stay one cat found stands =
    map_same (λ table. (found table).is.rows) (λ table. rows_in table cat) (λ table. one table (rows_in table cat) (found table).is.rows (rows_in table cat) (found table).is.written.order (stands table)) all_tables

-- ---- the export

module _ (held : AreHeld) (folder : Bytes) (tree : Tree) (cat : Catalogue) (rows : TextsByOid) (found : (table : SysTable) → TableFound cat table) (holds : HoldsTexts folder tree cat rows (λ table. (found table).text)) (formed : catalogue_fault cat ≡ None) (hold_rows : values_fault cat rows ≡ None) where
  abbrev export : Exported
  export = record { cat = cat; rows = rows_kept cat rows }

  behind_rows : (its : TextsByOid) → its ≡ rows_kept cat rows → IsReadWithinLimits export (have_rows (values_fault cat its) >>= λ done. Ok (record { cat = cat; rows = its }))
  behind_rows its is =
      subst (λ (fault : Option ValuesFault). IsReadWithinLimits export (have_rows fault >>= λ done. Ok (record { cat = cat; rows = its })))
      (sym (ap (values_fault cat) is ∙ values_kept cat rows ∙ hold_rows))
      (ap (λ (r : TextsByOid). record { cat = cat; rows = r }) is)

  behind_check : (used : ℕ) → IsReadWithinLimits export (told (data_of folder used cat tree) >>= λ its. have_rows (values_fault cat its) >>= λ done. Ok (record { cat = cat; rows = its }))
  behind_check used = by (data_of folder used cat tree) refl (only_data folder tree cat rows found holds used)
    where
      by : (r : Result TextsByOid FolderFault) → data_of folder used cat tree ≡ r → Only r → IsReadWithinLimits export (told r >>= λ its. have_rows (values_fault cat its) >>= λ done. Ok (record { cat = cat; rows = its }))
      by (Ok its) is only = behind_rows its (rows_are held cat rows (λ table. (found table).text) folder tree holds used cat refl its is)
      by (Err (TooLarge limit n)) is only = tt
      by (Err Failed) is only = elim only [ ]
      by (Err (Missing name)) is only = elim only [ ]
      by (Err (BadExport file line kind)) is only = elim only [ ]
      by (Err Memory) is only = elim only [ ]

  behind_tables : (used : ℕ) → IsReadWithinLimits export (export_with folder used cat tree)
  unfolding export_with
  behind_tables used =
      subst (λ (fault : Option CatFault). IsReadWithinLimits export (well_formed fault >>= λ checked. told (data_of folder used cat tree) >>= λ its. have_rows (values_fault cat its) >>= λ done. Ok (record { cat = cat; rows = its })))
      (sym formed) (behind_check used)

  pub is_read : rows_written cat found ≡ catalogue_rows cat → IsReadWithinLimits export (export_of folder tree)
  unfolding export_of
  is_read stay = by (catalogue_of folder tree) refl (only_catalogue folder tree cat rows found holds)
    where
      by : (r : Result (List (List (List Cell))) FolderFault) → catalogue_of folder tree ≡ r → Only r → IsReadWithinLimits export (told r >>= λ tables. export_with folder (bytes_of folder tree) (catalogue_with tables) tree)
      by (Ok tables) is only =
          subst (λ (c : Catalogue). IsReadWithinLimits export (export_with folder (bytes_of folder tree) c tree))
          (sym (ap catalogue_with (tables_read folder tree cat rows found holds tables is ∙ stay) ∙ catalogue_is cat))
          (behind_tables (bytes_of folder tree))
      by (Err (TooLarge limit n)) is only = tt
      by (Err Failed) is only = elim only [ ]
      by (Err (Missing name)) is only = elim only [ ]
      by (Err (BadExport file line kind)) is only = elim only [ ]
      by (Err Memory) is only = elim only [ ]

pub in_order : OneOrder → CanBeWritten → AreHeld → (cat : Catalogue) (rows : TextsByOid) (texts : Texts) (folder : Bytes) (tree : Tree) → AreTexts cat rows texts → StandsInOrder cat → catalogue_fault cat ≡ None → values_fault cat rows ≡ None
    → IsReadWithinLimits (record { cat = cat; rows = rows_kept cat rows }) (export_of folder (folder_saved folder texts tree))
in_order one can held cat rows texts folder tree are stands formed hold_rows =
    is_read held folder (folder_saved folder texts tree) cat rows (found_text cat rows texts are) (saved_holds one can cat rows texts are folder tree) formed hold_rows (rows_stay one cat (found_text cat rows texts are) stands)
