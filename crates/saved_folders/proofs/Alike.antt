-- Folders to which the texts of one catalogue and its rows are written are read alike.
use Rattle.std.proofs.Common.{◌≡◌, ℕ, List, Some, Result, Ok, Err, refl, ap, ◌∙◌}
use Rattle.dump_ports.specs.Tree.{Tree}
use Rattle.cat_model.specs.Values.{Bytes}
use Rattle.cat_rows.specs.declared.table.SysTable.{SysTable}
use Rattle.cat_rows.specs.declared.cell.Cell.{Cell}
use Rattle.cat_rows.specs.declared.catalogue.Catalogue.{Catalogue}
use Rattle.cat_names.specs.DataSets.{TextsByOid}
use Rattle.well_formed.specs.Catalogues.{catalogue_fault}
use Rattle.table_rows.specs.Tables.{table_oids}
use Rattle.table_rows.specs.Values.{values_fault}
use Rattle.folder_io.specs.declared.fault.FolderFault.{FolderFault}
use Rattle.folder_io.specs.Folders.{bytes_of, catalogue_of}
use Rattle.tool_words.specs.Answers.{◌>>=◌}
use Rattle.exports.specs.Cells.{catalogue_with}
use Rattle.exports.specs.Exports.{told, well_formed, have_rows, export_with, export_of}
use Rattle.saved_folders.specs.Folders.{Texts, folder_saved, AreTexts}
use Rattle.saved_folders.proofs.Holding.{OneOrder, CanBeWritten, TableFound, found_text, one_text, HoldsTexts, saved_holds, tables_read, oids_stay, catalogue_same, bytes_same, data_of_same}

-- ---- two folders that hold the texts

module _ (cat : Catalogue) (rows : TextsByOid) (found : (table : SysTable) → TableFound cat table) (folder other : Bytes) (tree before : Tree) (one : HoldsTexts folder tree cat rows (λ table. (found table).text)) (two : HoldsTexts other before cat rows (λ table. (found table).text)) where
  abbrev text : SysTable → Bytes
  text table = (found table).text

  with_same : (used : ℕ) (read : Catalogue) → table_oids read ≡ table_oids cat → export_with folder used read tree ≡ export_with other used read before
  unfolding export_with
  with_same used read oids =
      ap (λ r. well_formed (catalogue_fault read) >>= λ formed. told r >>= λ held. have_rows (values_fault read held) >>= λ done. Ok (record { cat = read; rows = held }))
      (data_of_same cat rows text folder other tree before one two used read oids)

  pub export_same : export_of folder tree ≡ export_of other before
  unfolding export_of
  export_same =
      ap (λ n. told (catalogue_of folder tree) >>= λ tables. export_with folder n (catalogue_with tables) tree) (bytes_same cat rows text folder other tree before one two)
      ∙ by (catalogue_of folder tree) refl
      ∙ ap (λ r. told r >>= λ tables. export_with other (bytes_of other before) (catalogue_with tables) before) (catalogue_same cat rows text folder other tree before one two)
    where
      by : (r : Result (List (List (List Cell))) FolderFault) → catalogue_of folder tree ≡ r → (told r >>= λ tables. export_with folder (bytes_of other before) (catalogue_with tables) tree) ≡ (told r >>= λ tables. export_with other (bytes_of other before) (catalogue_with tables) before)
      by (Ok tables) is = with_same (bytes_of other before) (catalogue_with tables) (ap (λ l. table_oids (catalogue_with l)) (tables_read folder tree cat rows found one tables is) ∙ oids_stay cat found)
      by (Err fault) is = refl

-- ---- the law

-- what is held for one list of texts is held for another
same_texts : OneOrder → (cat : Catalogue) (rows : TextsByOid) (found others : (table : SysTable) → TableFound cat table) (folder : Bytes) (tree : Tree) → HoldsTexts folder tree cat rows (λ table. (others table).text) → HoldsTexts folder tree cat rows (λ table. (found table).text)
same_texts one cat rows found others folder tree holds = record {
  marked = holds.marked;
  tables = λ table. holds.tables table ∙ ap Some (one_text one cat (record { table = table; text = (others table).text }) (record { table = table; text = (found table).text }) refl (others table).is (found table).is);
  put = holds.put;
}

pub read_alike : OneOrder → CanBeWritten → (cat : Catalogue) (rows : TextsByOid) (texts others : Texts) → AreTexts cat rows texts → AreTexts cat rows others
    → (folder other : Bytes) (tree before : Tree) → export_of folder (folder_saved folder texts tree) ≡ export_of other (folder_saved other others before)
read_alike one can cat rows texts others are are_others folder other tree before =
    export_same cat rows (found_text cat rows texts are) folder other (folder_saved folder texts tree) (folder_saved other others before)
    (saved_holds one can cat rows texts are folder tree)
    (same_texts one cat rows (found_text cat rows texts are) (found_text cat rows others are_others) other (folder_saved other others before) (saved_holds one can cat rows others are_others other before))
