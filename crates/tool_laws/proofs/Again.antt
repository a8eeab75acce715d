-- A folder that psql left is opened again, and two folders of the same schemas are found the same.
use Rattle.std.proofs.Common.{◌≡◌, true, ◌||◌, cond, List, [], ◌∷◌, ◌++◌, map, Some, None, Option, option_and_then, Result, Ok, refl, sym, ap, subst, ◌∙◌, inl, inr}
use Rattle.std.specs.FinMap.{get, empty}
use Rattle.std.proofs.lemmas.List.Folds.{list_any-append}
use Rattle.std.proofs.lemmas.List.Sorted.{list_any-IsPermutation}
use Rattle.dump_ports.specs.Tree.{Tree}
use Rattle.cat_rows.specs.declared.catalogue.Catalogue.{Catalogue}
use Rattle.cat_rows.specs.RowCells.{namespace_cells}
use Rattle.cat_model.specs.Values.{Bytes, Named}
use Rattle.cat_naming.specs.Entries.{catalogue_named}
use Rattle.cat_naming.specs.Texts.{rows_by_oid}
use Rattle.exports.specs.Exports.{Exported, export_of}
use Rattle.schema_folders.specs.declared.schemas.SchemaRow.{SchemaRow}
use Rattle.schema_folders.specs.Naming.{named}
use Rattle.schema_folders.specs.Folder.{namespace_row, cells_of_row, schemas_alone, has_public, if_public, rows_after, or_unbuilt, opening_in, opening_of}
use Rattle.schema_folders.proofs.Standing.{all_rows}
use Rattle.tool_words.specs.declared.outcome.Outcome.{Outcome}
use Rattle.tool_words.specs.declared.outcome.Outcome.TheVariants.{Done}
use Rattle.tool_words.specs.declared.words.Teller.{Teller}
use Rattle.tool_words.specs.Answers.{◌>>=◌}
use Rattle.openings.specs.Openings.{opened_folder, export_named}
use Rattle.dump_tools.specs.Due.{Plan, Application, Comes, compare_due}
use Rattle.tool_laws.proofs.Planning.{taken_in}
use Rattle.dump_tools.specs.Runs.{Run, run_of, IsCompared, MayCome}
use Rattle.dump_tools.proofs.Comparing.{first_read, second_read}
use Rattle.tool_laws.specs.Opening.{AreSchemas}
use Rattle.tool_laws.proofs.Bare.{opening_is}
use Rattle.tool_laws.proofs.Opened.{bind_ok}
use Rattle.tool_laws.proofs.Unified.{same_names}

-- ---- opened again

-- schemas alone are an opening
pub alone_opens : (rows : List SchemaRow) → AreSchemas rows → has_public rows ≡ true → opening_in (schemas_alone rows) ≡ Ok rows
alone_opens rows are public =
    ap (λ (found : Option (List SchemaRow)). or_unbuilt true (option_and_then if_public found)) (ap (rows_after []) (same_cells rows) ∙ all_rows [] rows are.names are.oids)
    ∙ ap (λ b. or_unbuilt true (cond b (Some rows) None)) public
  where
    same_cells : (rows : List SchemaRow) → map namespace_cells (map namespace_row rows) ≡ map cells_of_row rows
    same_cells [] = refl
    same_cells (row ∷ rows) = ap (λ more. cells_of_row row ∷ more) (same_cells rows)

-- and so is a folder that is an export of them
pub opens : (folder : Bytes) (tree : Tree) (rows : List SchemaRow) → export_of folder tree ≡ Ok (record { cat = schemas_alone rows; rows = empty }) → AreSchemas rows → has_public rows ≡ true → opening_of folder tree ≡ Ok rows
unfolding opening_of
opens folder tree rows e are public = ap (λ (r : Result Exported Outcome). r >>= λ export. opening_in export.cat) e ∙ alone_opens rows are public

-- public stays where it was
pub comes_public : (plan : Application) (text : Bytes) (comes : Comes plan text) → has_public plan.rows ≡ true → has_public comes.rows ≡ true
comes_public plan text comes public =
    sym (list_any-IsPermutation _ (plan.rows ++ comes.made) comes.rows comes.kept)
    ∙ list_any-append _ plan.rows comes.made
    ∙ ap (λ b. b || has_public comes.made) public

-- ---- found the same

-- what a folder of schemas stands for
pub record Meant (folder : Bytes) (tree : Tree) (rows : List SchemaRow) : Type 0 where
  pub export : Exported
  pub read : opened_folder folder tree ≡ Ok export
  pub means : export_named export ≡ named rows

pub meant : (folder : Bytes) (tree : Tree) (rows : List SchemaRow) → opening_of folder tree ≡ Ok rows → Meant folder tree rows
unfolding opening_of export_named
meant folder tree rows e =
    let export = bind_ok (export_of folder tree) (λ export. opening_in export.cat) rows e in
    record {
      export = export.0;
      read = taken_in folder tree export.0 rows export.1 (opening_is export.0.cat rows export.2);
      means = ap (λ (cat : Catalogue). catalogue_named cat (rows_by_oid export.0.rows)) (opening_is export.0.cat rows export.2) ∙ same_names rows (rows_by_oid export.0.rows);
    }

compared : (teller : Teller) (a b : Named) (run : Run) → a ≡ b → IsCompared teller a b run → run ≡ run_of [] Done
compared teller a b run e (inl same) = same.1
compared teller a b run e (inr (key, least, is)) = elim (least.differs (ap (λ (n : Named). get n key) e)) [ ]

pub found_same : (source target : Bytes) (tree : Tree) (rows others : List SchemaRow) → opening_of source tree ≡ Ok rows → opening_of target tree ≡ Ok others → named others ≡ named rows
    → (teller : Teller) (run : Run) → MayCome teller (compare_due source target tree) run → run ≡ run_of [] Done
found_same source target tree rows others opened other same teller run may =
    let one = meant source tree rows opened in
    let two = meant target tree others other in
    let due = first_read source target tree one.export one.read ∙ second_read one.export target tree two.export two.read in
    compared teller (export_named one.export) (export_named two.export) run (one.means ∙ sym same ∙ sym two.means)
    (subst (λ (d : Result Plan Outcome). MayCome teller d run) due may)
