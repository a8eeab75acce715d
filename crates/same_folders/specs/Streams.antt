-- Data files that stand in two folders, and whose lines were tried.
use Rattle.std.specs.Prelude.{◌≡◌, ℕ, ◌+◌, ◌≤◌, List, length, Some, None, Ok}
use Rattle.std.specs.List.{AllByRecursion, sum_by}
use Rattle.dump_ports.specs.Tree.{Tree, bytes_at, text_at}
use Rattle.cat_model.specs.Values.{Bytes}
use Rattle.cat_names.specs.DataSets.{TextsByOid}
use Rattle.folder_io.specs.declared.file.ExportFile.TheVariants.{Data}
use Rattle.folder_io.specs.declared.fault.FolderLimit.TheVariants.{DataFile, Folder}
use Rattle.folder_io.specs.Folders.{file_length, file_of, most_bytes}
use Rattle.cat_rows.specs.declared.catalogue.Catalogue.{Catalogue}
use Rattle.table_rows.specs.Tables.{table_oids}
use Rattle.table_rows.specs.Values.{text_of, values_fault}
use Rattle.cat_load.specs.Loads.{rows_fault}
use Rattle.exports.specs.Exports.{Exported}
use Rattle.openings.specs.Openings.{opened_folder}
use Rattle.key_sets.specs.declared.key_set.KeySet.{KeySet}
use Rattle.same_texts.specs.Alike.{HasSame}
use Rattle.plain_loads.specs.declared.trying.TableTrial.{TableTrial}
use Rattle.plain_loads.specs.Trying.{Seen}

-- the files of both names have one text of so many bytes, which the trial has seen whole
pub record IsSeen (tree : Tree) (first second : Bytes) (trial : TableTrial) (len : ℕ) (keys : KeySet) : Type 0 where
  pub text : Bytes
  pub one : text_at tree first ≡ Some text
  pub other : text_at tree second ≡ Some text
  pub many : length text ≡ len
  pub seen : Seen trial keys text

-- the data file of a table has one text in both folders, of so many bytes
pub record IsAlike (first second : Bytes) (tree : Tree) (oid len : ℕ) : Type 0 where
  pub same : HasSame first second tree (Data oid)
  pub many : file_length first tree (Data oid) ≡ len

-- the text that stands for a table is that of its data file
abbrev pub StandsFor : Bytes → Tree → TextsByOid → ℕ → Type 0
StandsFor folder tree texts oid = text_of texts oid ≡ bytes_at tree (file_of folder (Data oid))

-- The data files of these tables have one text in both folders, within the limits together with so many bytes.
pub record HoldLines (first second : Bytes) (tree : Tree) (used : ℕ) (oids : List ℕ) : Type 0 where
  pub same : AllByRecursion (λ oid. HasSame first second tree (Data oid)) oids
  pub limited : AllByRecursion (λ oid. file_length first tree (Data oid) ≤ most_bytes DataFile) oids
  pub fits : used + sum_by (λ oid. file_length first tree (Data oid)) oids ≤ most_bytes Folder

-- The data files of the catalogue's tables have one text in both folders, within the limits together with so many bytes, and whatever
-- texts stand for them hold rows of the tables, which meet them.
pub record LinesMeet (first second : Bytes) (tree : Tree) (cat : Catalogue) (used : ℕ) : Type 0 where
  pub lines : HoldLines first second tree used (table_oids cat)
  pub hold : (texts : TextsByOid) → AllByRecursion (StandsFor first tree texts) (table_oids cat) → values_fault cat texts ≡ None
  pub meet : (texts : TextsByOid) → AllByRecursion (StandsFor first tree texts) (table_oids cat) → rows_fault cat texts ≡ None

-- both folders have one opening
pub record OpenAsOne (first second : Bytes) (tree : Tree) : Type 0 where
  pub export : Exported
  pub one : opened_folder first tree ≡ Ok export
  pub other : opened_folder second tree ≡ Ok export
