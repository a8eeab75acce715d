-- What a folder that was written is read as: the rows of the catalogue, each table's in its order, and the texts put for
-- its tables.
use Rattle.std.proofs.Common.{◌≡◌, ℕ, Bool, true, false, cond, ◌||◌, List, [], ◌∷◌, map, Option, Some, None, option_map, unwrap_or, Result, Ok, Err, refl, sym, ap, subst, ◌∙◌}
use Rattle.std.specs.Prelude.{filter_map}
use Rattle.std.specs.Ordering.{nat_cmp, eq_by_cmp}
use Rattle.std.specs.Cmp.{nat_cmp_total}
use Rattle.std.specs.List.{AllByRecursion}
use Rattle.std.specs.List.Sorted.{IsPermutation}
use Rattle.std.specs.FinMap.{get, find, get-from_entries, same_map, nat_cmp-IsAntisymmetric}
use Rattle.std.proofs.lemmas.List.Elements.{recursion_from_All, All-from_recursion}
use Rattle.std.proofs.lemmas.List.Sorted.{All-permutation}
use Rattle.dump_ports.specs.Tree.{Tree, bytes_at}
use Rattle.cat_model.specs.Values.{Bytes}
use Rattle.cat_rows.specs.declared.table.SysTable.{SysTable}
use Rattle.cat_rows.specs.declared.table.SysTable.TheVariants.{PgAuthid, PgAuthMembers, PgDatabase, PgNamespace, PgType, PgEnum, PgClass, PgAttribute, PgAttrdef, PgConstraint, PgIndex, PgSequence, PgRewrite, PgDescription, PgDepend}
use Rattle.cat_rows.specs.declared.cell.Cell.{Cell}
use Rattle.cat_rows.specs.declared.catalogue.Catalogue.{Catalogue}
use Rattle.cat_rows.specs.Catalogues.{rows_in}
use Rattle.cat_rows.specs.Order.{IsInOrder}
use Rattle.cat_rows.specs.RowCells.{authid_cells, auth_members_cells, database_cells, namespace_cells, type_cells, enum_cells, class_cells, attribute_cells, attrdef_cells, constraint_cells, index_cells, sequence_cells, rewrite_cells, description_cells, depend_cells}
use Rattle.cat_names.specs.DataSets.{TextsByOid}
use Rattle.cat_names.specs.Lookups.{has_oid}
use Rattle.cat_names.specs.declared.fault.CatFault.{CatFault}
use Rattle.well_formed.specs.Catalogues.{catalogue_fault}
use Rattle.table_rows.specs.Tables.{table_oids}
use Rattle.table_rows.specs.Values.{text_of, values_fault}
use Rattle.table_rows.specs.declared.fault.ValuesFault.{ValuesFault}
use Rattle.folder_io.specs.declared.file.ExportFile.TheVariants.{Data}
use Rattle.folder_io.specs.declared.fault.FolderFault.{FolderFault}
use Rattle.folder_io.specs.Folders.{file_of, bytes_of, catalogue_of}
use Rattle.folder_rows.specs.Reading.{data_of}
use Rattle.folder_rows.specs.Holding.{HoldsRows}
use Rattle.folder_rows.proofs.Steps.{same_oid}
use Rattle.tool_words.specs.Answers.{◌>>=◌}
use Rattle.exports.specs.Cells.{authid_of, member_of, database_of, schema_of, type_of, label_of, relation_of, column_of, default_of, constraint_of, index_of, sequence_of, body_of, comment_of, dependency_of, catalogue_with}
use Rattle.exports.specs.Exports.{Exported, told, well_formed, have_rows, export_with, export_of}
use Rattle.exports.proofs.Wholes.{whole}
use Rattle.saved_folders.specs.Folders.{Texts, DataText, data_text, AreTexts, folder_saved}
use Rattle.saved_folders.specs.Exports.{rows_kept, IsReordered}
use Rattle.saved_folders.proofs.Holding.{OneOrder, CanBeWritten, TableFound, found_text, HoldsTexts, saved_holds, rows_written, tables_read, oids_stay, each_among}

-- ---- the rows of a table

-- the cells are those of a row
abbrev OfRow : {R : Type 0} → (R → List Cell) → (List Cell → Option R) → List Cell → Type 0
OfRow cells of c = option_map cells (of c) ≡ Some c

each_of_row : {R : Type 0} (cells : R → List Cell) (of : List Cell → Option R) → ((row : R) → of (cells row) ≡ Some row) → (rows : List R) → AllByRecursion (OfRow cells of) (map cells rows)
each_of_row cells of same [] = tt
each_of_row cells of same (row ∷ rows) = (ap (option_map cells) (same row), each_of_row cells of same rows)

forth : {R : Type 0} (cells : R → List Cell) (of : List Cell → Option R) (written : List (List Cell)) → AllByRecursion (OfRow cells of) written → map cells (filter_map of written) ≡ written
forth cells of [] all = refl
forth {R} cells of (c ∷ cs) all = by (of c) refl all.0 (forth cells of cs all.1)
  where
    by : (o : Option R) → of c ≡ o → option_map cells o ≡ Some c → map cells (filter_map of cs) ≡ cs → map cells (filter_map of (c ∷ cs)) ≡ c ∷ cs
    by None is e rest = absurd cc
    by (Some row) is e rest = let head : cells row ≡ c = cc in rw is (ap (λ (d : List Cell). d ∷ map cells (filter_map of cs)) head ∙ ap (λ (l : List (List Cell)). c ∷ l) rest)

-- rows in another order are found again from their cells
again : {R : Type 0} (cells : R → List Cell) (of : List Cell → Option R) → ((row : R) → of (cells row) ≡ Some row) → (rows : List R) (written : List (List Cell)) → IsPermutation (map cells rows) written → map cells (filter_map of written) ≡ written
again cells of same rows written p =
    forth cells of written (recursion_from_All (OfRow cells of) written (All-permutation (OfRow cells of) (map cells rows) written p (All-from_recursion (OfRow cells of) (map cells rows) (each_of_row cells of same rows))))

-- the rows of the catalogue that is read are those that were written
rows_read : (cat : Catalogue) (found : (table : SysTable) → TableFound cat table) (table : SysTable) → rows_in table (catalogue_with (rows_written cat found)) ≡ (found table).is.rows
unfolding catalogue_with
rows_read cat found PgAuthid = again authid_cells authid_of (λ row. refl) cat.pg_authid (found PgAuthid).is.rows (found PgAuthid).is.written.order.permutation
rows_read cat found PgAuthMembers = again auth_members_cells member_of (λ row. refl) cat.pg_auth_members (found PgAuthMembers).is.rows (found PgAuthMembers).is.written.order.permutation
rows_read cat found PgDatabase = again database_cells database_of (λ row. refl) cat.pg_database (found PgDatabase).is.rows (found PgDatabase).is.written.order.permutation
rows_read cat found PgNamespace = again namespace_cells schema_of (λ row. refl) cat.pg_namespace (found PgNamespace).is.rows (found PgNamespace).is.written.order.permutation
rows_read cat found PgType = again type_cells type_of (λ row. refl) cat.pg_type (found PgType).is.rows (found PgType).is.written.order.permutation
rows_read cat found PgEnum = again enum_cells label_of (λ row. refl) cat.pg_enum (found PgEnum).is.rows (found PgEnum).is.written.order.permutation
rows_read cat found PgClass = again class_cells relation_of (λ row. refl) cat.pg_class (found PgClass).is.rows (found PgClass).is.written.order.permutation
rows_read cat found PgAttribute = again attribute_cells column_of (λ row. refl) cat.pg_attribute (found PgAttribute).is.rows (found PgAttribute).is.written.order.permutation
rows_read cat found PgAttrdef = again attrdef_cells default_of (λ row. refl) cat.pg_attrdef (found PgAttrdef).is.rows (found PgAttrdef).is.written.order.permutation
rows_read cat found PgConstraint = again constraint_cells constraint_of (λ row. refl) cat.pg_constraint (found PgConstraint).is.rows (found PgConstraint).is.written.order.permutation
rows_read cat found PgIndex = again index_cells index_of (λ row. refl) cat.pg_index (found PgIndex).is.rows (found PgIndex).is.written.order.permutation
rows_read cat found PgSequence = again sequence_cells sequence_of (λ row. refl) cat.pg_sequence (found PgSequence).is.rows (found PgSequence).is.written.order.permutation
rows_read cat found PgRewrite = again rewrite_cells body_of (λ row. refl) cat.pg_rewrite (found PgRewrite).is.rows (found PgRewrite).is.written.order.permutation
rows_read cat found PgDescription = again description_cells comment_of (λ row. refl) cat.pg_description (found PgDescription).is.rows (found PgDescription).is.written.order.permutation
rows_read cat found PgDepend = again depend_cells dependency_of (λ row. refl) cat.pg_depend (found PgDepend).is.rows (found PgDepend).is.written.order.permutation

-- ---- the texts put for the tables

-- the entry of a table
abbrev entry : TextsByOid → ℕ → ℕ × Bytes
entry rows oid = (oid, text_of rows oid)

find_entry : (rows : TextsByOid) (oids : List ℕ) (q : ℕ) → find nat_cmp q (map (entry rows) oids) ≡ cond (has_oid oids q) (Some (text_of rows q)) None
find_entry rows [] q = refl
find_entry rows (oid ∷ oids) q = ap (λ (o : Option Bytes). cond (eq_by_cmp nat_cmp q oid) (Some (text_of rows oid)) o) (find_entry rows oids q) ∙ by (eq_by_cmp nat_cmp q oid) refl
  where
    by : (b : Bool) → eq_by_cmp nat_cmp q oid ≡ b → cond b (Some (text_of rows oid)) (cond (has_oid oids q) (Some (text_of rows q)) None) ≡ cond (b || has_oid oids q) (Some (text_of rows q)) None
    by true is = ap (λ (o : ℕ). Some (text_of rows o)) (sym (same_oid q oid is))
    by false is = refl

get_kept : (cat : Catalogue) (rows : TextsByOid) (q : ℕ) → get (rows_kept cat rows) q ≡ cond (has_oid (table_oids cat) q) (Some (text_of rows q)) None
get_kept cat rows q = get-from_entries nat_cmp_total (map (entry rows) (table_oids cat)) q ∙ find_entry rows (table_oids cat) q

-- the texts kept are those put
pub text_kept : (cat : Catalogue) (rows : TextsByOid) (oid : ℕ) → has_oid (table_oids cat) oid ≡ true → text_of (rows_kept cat rows) oid ≡ text_of rows oid
text_kept cat rows oid has =
    ap (λ (o : Option Bytes). unwrap_or o []) (get_kept cat rows oid ∙ ap (λ (b : Bool). cond {A = Option Bytes} b (Some (text_of rows oid)) None) has)

each_kept : (cat : Catalogue) (rows : TextsByOid) (os : List ℕ) → AllByRecursion (λ oid. has_oid (table_oids cat) oid ≡ true) os → map (data_text (rows_kept cat rows)) os ≡ map (data_text rows) os
each_kept cat rows [] all = refl
each_kept cat rows (o ∷ os) all =
    ap (λ (t : Bytes). record { oid = o; text = t } ∷ map (data_text (rows_kept cat rows)) os) (text_kept cat rows o all.0)
    ∙ ap (λ (l : List DataText). data_text rows o ∷ l) (each_kept cat rows os all.1)

pub texts_kept : (cat : Catalogue) (rows : TextsByOid) → map (data_text (rows_kept cat rows)) (table_oids cat) ≡ map (data_text rows) (table_oids cat)
texts_kept cat rows = each_kept cat rows (table_oids cat) (each_among (table_oids cat) (table_oids cat) (λ oid has. has))

-- ---- the export that is read

-- the catalogue of an export is the one that was read
its_catalogue : (folder : Bytes) (used : ℕ) (read : Catalogue) (tree : Tree) (export : Exported) → export_with folder used read tree ≡ Ok export → export.cat ≡ read
unfolding export_with
its_catalogue folder used read tree export is = one (catalogue_fault read) (data_of folder used read tree) is
  where
    three : (rows : TextsByOid) (fault : Option ValuesFault) → (have_rows fault >>= λ held. Ok (record { cat = read; rows = rows })) ≡ Ok export → export.cat ≡ read
    three rows None e = let same : record { cat = read; rows = rows } ≡ export = cc in ap (λ (x : Exported). x.cat) (sym same)
    three rows (Some fault) e = absurd cc

    one : (fault : Option CatFault) (read_rows : Result TextsByOid FolderFault) → (well_formed fault >>= λ formed. told read_rows >>= λ rows. have_rows (values_fault read rows) >>= λ held. Ok (record { cat = read; rows = rows })) ≡ Ok export → export.cat ≡ read
    one (Some fault) read_rows e = absurd cc
    one None (Err fault) e = absurd cc
    one None (Ok rows) e = three rows (values_fault read rows) e

-- the tables that were read, and the export behind them
tables_behind : (folder : Bytes) (tree : Tree) (export : Exported) → export_of folder tree ≡ Ok export → (tables : List (List (List Cell))) × (catalogue_of folder tree ≡ Ok tables) × (export_with folder (bytes_of folder tree) (catalogue_with tables) tree ≡ Ok export)
unfolding export_of
tables_behind folder tree export is = by (catalogue_of folder tree) refl is
  where
    by : (r : Result (List (List (List Cell))) FolderFault) → catalogue_of folder tree ≡ r → (told r >>= λ tables. export_with folder (bytes_of folder tree) (catalogue_with tables) tree) ≡ Ok export
        → (tables : List (List (List Cell))) × (catalogue_of folder tree ≡ Ok tables) × (export_with folder (bytes_of folder tree) (catalogue_with tables) tree ≡ Ok export)
    by (Ok tables) read e = (tables, read, e)
    by (Err fault) read e = absurd cc

-- what the law of data files gives
abbrev pub AreHeld : Type 0
AreHeld = (folder : Bytes) (used : ℕ) (cat : Catalogue) (tree : Tree) (rows : TextsByOid) → data_of folder used cat tree ≡ Ok rows → HoldsRows folder used cat tree rows

-- the rows of the data files are those that were put
pub rows_are : AreHeld → (cat : Catalogue) (rows : TextsByOid) (text : SysTable → Bytes) (folder : Bytes) (tree : Tree) → HoldsTexts folder tree cat rows text
    → (used : ℕ) (read : Catalogue) → table_oids read ≡ table_oids cat → (its : TextsByOid) → data_of folder used read tree ≡ Ok its → its ≡ rows_kept cat rows
rows_are held cat rows text folder tree holds used read oids its is =
    same_map nat_cmp_total nat_cmp-IsAntisymmetric its (rows_kept cat rows) (λ q.
    (held folder used read tree its is).texts q
    ∙ ap (λ (l : List ℕ). cond {A = Option Bytes} (has_oid l q) (Some (bytes_at tree (file_of folder (Data q)))) None) oids
    ∙ by q (has_oid (table_oids cat) q) refl
    ∙ sym (get_kept cat rows q))
  where
    by : (q : ℕ) (b : Bool) → has_oid (table_oids cat) q ≡ b
        → cond {A = Option Bytes} (has_oid (table_oids cat) q) (Some (bytes_at tree (file_of folder (Data q)))) None ≡ cond {A = Option Bytes} (has_oid (table_oids cat) q) (Some (text_of rows q)) None
    by q true has =
        ap (λ (b : Bool). cond {A = Option Bytes} b (Some (bytes_at tree (file_of folder (Data q)))) None) has
        ∙ ap (λ (o : Option Bytes). Some (unwrap_or o [])) (holds.put q has)
        ∙ ap (λ (b : Bool). cond {A = Option Bytes} b (Some (text_of rows q)) None) (sym has)
    by q false has =
        ap (λ (b : Bool). cond {A = Option Bytes} b (Some (bytes_at tree (file_of folder (Data q)))) None) has
        ∙ ap (λ (b : Bool). cond {A = Option Bytes} b (Some (text_of rows q)) None) (sym has)

pub reordered : OneOrder → CanBeWritten → AreHeld → (cat : Catalogue) (rows : TextsByOid) (texts : Texts) (folder : Bytes) (tree : Tree) (export : Exported) → AreTexts cat rows texts
    → export_of folder (folder_saved folder texts tree) ≡ Ok export → IsReordered cat rows export
reordered one can held cat rows texts folder tree export are is =
    let after = folder_saved folder texts tree in
    let found = found_text cat rows texts are in
    let holds = saved_holds one can cat rows texts are folder tree in
    let behind = tables_behind folder after export is in
    let tables : behind.0 ≡ rows_written cat found = tables_read folder after cat rows found holds behind.0 behind.1 in
    let same : export.cat ≡ catalogue_with (rows_written cat found) = its_catalogue folder (bytes_of folder after) (catalogue_with behind.0) after export behind.2 ∙ ap catalogue_with tables in
    let oids : table_oids (catalogue_with behind.0) ≡ table_oids cat = ap (λ l. table_oids (catalogue_with l)) tables ∙ oids_stay cat found in
    record {
      order = λ table. subst (IsInOrder table (rows_in table cat)) (sym (ap (rows_in table) same ∙ rows_read cat found table)) (found table).is.written.order;
      texts = rows_are held cat rows (λ table. (found table).text) folder after holds (bytes_of folder after) (catalogue_with behind.0) oids export.rows (whole folder (bytes_of folder after) (catalogue_with behind.0) after export behind.2).1;
    }
