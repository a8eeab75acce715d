-- What a folder that was written is read as.
use Rattle.std.specs.Prelude.{◌≡◌, ◌⊎◌, [], map, Result, Ok, Err}
use Rattle.std.specs.FinMap.{empty, from_entries}
use Rattle.dump_ports.specs.Tree.{Tree}
use Rattle.cat_rows.specs.declared.table.SysTable.{SysTable}
use Rattle.cat_rows.specs.declared.catalogue.Catalogue.{Catalogue}
use Rattle.cat_rows.specs.Catalogues.{rows_in}
use Rattle.cat_rows.specs.Order.{IsInOrder}
use Rattle.cat_model.specs.Values.{Bytes}
use Rattle.cat_names.specs.DataSets.{TextsByOid}
use Rattle.table_rows.specs.Tables.{table_oids}
use Rattle.table_rows.specs.Values.{text_of}
use Rattle.exports.specs.Exports.{Exported, export_of}
use Rattle.tool_words.specs.declared.outcome.Outcome.{Outcome}
use Rattle.tool_words.specs.declared.outcome.Outcome.TheVariants.{ReadFault, WriteFault, TooLarge, Memory}
use Rattle.saved_folders.specs.Folders.{Texts, AreTexts, folder_saved}

-- an export, and the texts of its folder
pub record WithTexts : Type 0 where
  pub export : Exported
  pub texts : Texts

-- A folder to which these texts are written is read as this export, whatever it is called and whatever was there before.
abbrev pub ReadsAs : Texts → Exported → Type 0
ReadsAs texts export = (folder : Bytes) (tree : Tree) → export_of folder (folder_saved folder texts tree) ≡ Ok export

-- the rows of a catalogue's tables: the text put for each, the empty one where none was, and nothing for other oids
abbrev pub rows_kept : Catalogue → TextsByOid → TextsByOid
rows_kept cat rows = from_entries (map (λ oid. (oid, text_of rows oid)) (table_oids cat))

-- the export has the rows of the catalogue, each table's in its order, and the texts of its tables' rows
pub record IsReordered (cat : Catalogue) (rows : TextsByOid) (export : Exported) : Type 0 where
  pub order : (table : SysTable) → IsInOrder table (rows_in table cat) (rows_in table export.cat)
  pub texts : export.rows ≡ rows_kept cat rows

-- why there are no texts: memory ran out, or a folder to which they are written is read as no export
abbrev pub HasNoTexts : Catalogue → TextsByOid → Outcome → Type 0
HasNoTexts cat rows outcome = (outcome ≡ Memory) ⊎ ((texts : Texts) × AreTexts cat rows texts × (export_of [] (folder_saved [] texts empty) ≡ Err outcome))

-- an answer that comes without a call on the outside
abbrev pub IsCallFree : Outcome → Type 0
IsCallFree ReadFault = ⊥
IsCallFree WriteFault = ⊥
IsCallFree outcome = Unit {0}

-- ---- catalogues in order

-- the rows of each table stand in its order
abbrev pub StandsInOrder : Catalogue → Type 0
StandsInOrder cat = (table : SysTable) → IsInOrder table (rows_in table cat) (rows_in table cat)

-- this export is read, or the refusal is that of a limit
abbrev pub IsReadWithinLimits : Exported → Result Exported Outcome → Type 0
IsReadWithinLimits export (Ok read) = read ≡ export
IsReadWithinLimits export (Err (TooLarge limit n)) = Unit {0}
IsReadWithinLimits export (Err outcome) = ⊥
