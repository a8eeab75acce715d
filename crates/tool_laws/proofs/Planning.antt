-- What psql has to do where a folder's only objects are schemas and the statements are all of schemas.
use Rattle.std.proofs.Common.{◌≡◌, Bool, true, false, cond, not, ◌&&◌, List, Option, Some, None, Result, Ok, Err, refl, ap, subst, ◌∙◌}
use Rattle.std.specs.Result.{result_ok}
use Rattle.dump_ports.specs.Tree.{Tree}
use Rattle.cat_rows.specs.declared.catalogue.Catalogue.{Catalogue}
use Rattle.cat_model.specs.declared.words.What.TheVariants as what
use Rattle.cat_model.specs.Values.{Bytes}
use Rattle.cat_names.specs.DataSets.{TextsByOid}
use Rattle.cat_names.specs.Naming.{boot as boot_role}
use Rattle.oid_groups.specs.Orders.{by_number}
use Rattle.table_rows.specs.Tables.{table_oids}
use Rattle.cat_load.specs.Loads.{rows_fault}
use Rattle.ddl_scripts.specs.declared.fault.DdlFault.{DdlFault}
use Rattle.ddl_scripts.specs.declared.located.Located.{Located}
use Rattle.ddl_scripts.specs.Reading.{statements_of}
use Rattle.tool_words.specs.declared.outcome.Outcome.{Outcome}
use Rattle.tool_words.specs.declared.outcome.Outcome.TheVariants.{OutOfProfile}
use Rattle.tool_words.specs.declared.words.ScriptSource.{ScriptSource}
use Rattle.tool_words.specs.Answers.{◌>>=◌}
use Rattle.exports.specs.Exports.{Exported, export_of}
use Rattle.openings.specs.Openings.{meet, opened, opened_folder}
use Rattle.schema_folders.specs.declared.schemas.SchemaRow.{SchemaRow}
use Rattle.schema_folders.specs.Folder.{opening_in, opening_of, schemas_alone}
use Rattle.schema_folders.specs.Statements.{are_taken, script_of}
use Rattle.schema_folders.specs.Statements.{scripted as taken_of}
use Rattle.dump_tools.specs.Due.{Application, Applies, scripted, script_read, schemas_for, runs_as, running, plan_with, plan_for, source_of, text_due, psql_due}
use Rattle.tool_laws.proofs.Opened.{bind_ok}

-- ---- a script of schemas

-- a text that reads as statements of schemas
pub record Taken (text : Bytes) (statements : List Located) : Type 0 where
  pub reads : script_read text ≡ Ok statements
  pub taken : are_taken statements ≡ true

pub script_taken : (text : Bytes) (statements : List Located) → script_of text ≡ Ok statements → Taken text statements
unfolding script_of script_read
script_taken text statements e = by (statements_of text) refl e
  where
    kinds : (found : List Located) (b : Bool) → are_taken found ≡ b → cond {A = Result (List Located) Outcome} b (Ok found) (Err (OutOfProfile what.Unbuilt)) ≡ Ok statements → (found ≡ statements) × (are_taken found ≡ true)
    kinds found true is h = (cc, is)
    kinds found false is h = absurd cc

    by : (read : Result (List Located) DdlFault) → statements_of text ≡ read → taken_of read ≡ Ok statements → Taken text statements
    by (Err fault) is h = absurd cc
    by (Ok found) is h =
        let both = kinds found (are_taken found) refl h in
        record { reads = ap scripted is ∙ ap Ok both.0; taken = subst (λ (all : List Located). are_taken all ≡ true) both.0 both.1 }

-- ---- a plan of schemas

none_applies : (folder : Bytes) (stop : Bool) (statements : List Located) (export : Exported) (plan : Application) → running folder stop statements export ≡ Ok (Applies plan) → ⊥
none_applies folder stop statements export plan e =
    let opening = bind_ok (opened export) (λ opening. runs_as folder stop statements opening (boot_role opening.cat)) (Applies plan) e in
    by opening.0 (boot_role opening.0.cat) opening.2
  where
    by : (opening : Exported) (role : Option Bytes) → runs_as folder stop statements opening role ≡ Ok (Applies plan) → ⊥
    by opening None h = absurd cc
    by opening (Some role) h = cc

schemas_are : (stop : Bool) (statements : List Located) (cat : Catalogue) (rows : List SchemaRow) → schemas_for stop statements cat ≡ Some rows → opening_in cat ≡ Ok rows
schemas_are stop statements cat rows e = by (not stop && are_taken statements) e
  where
    found : (r : Result (List SchemaRow) Outcome) → result_ok r ≡ Some rows → r ≡ Ok rows
    found (Ok others) h = let same : others ≡ rows = cc in ap Ok same
    found (Err outcome) h = absurd cc

    by : (b : Bool) → cond b (result_ok (opening_in cat)) None ≡ Some rows → opening_in cat ≡ Ok rows
    by true h = found (opening_in cat) h
    by false h = absurd cc

-- the rows of a plan of schemas are those of the catalogue
pub planned_rows : (folder : Bytes) (stop : Bool) (statements : List Located) (export : Exported) (plan : Application) → plan_for folder stop statements export ≡ Ok (Applies plan) → opening_in export.cat ≡ Ok plan.rows
unfolding plan_for
planned_rows folder stop statements export plan e = by (schemas_for stop statements export.cat) refl e
  where
    by : (schemas : Option (List SchemaRow)) → schemas_for stop statements export.cat ≡ schemas → plan_with folder stop statements export schemas ≡ Ok (Applies plan) → opening_in export.cat ≡ Ok plan.rows
    by None is h = elim (none_applies folder stop statements export plan h) [ ]
    by (Some rows) is h =
        let same : record { folder = folder; statements = statements; rows = rows } ≡ plan = cc in
        schemas_are stop statements export.cat plan.rows (is ∙ ap (λ (p : Application). Some p.rows) same)

-- statements of schemas, for a catalogue of schemas alone
pub plans_schemas : (folder : Bytes) (statements : List Located) (export : Exported) (rows : List SchemaRow) → are_taken statements ≡ true → opening_in export.cat ≡ Ok rows → plan_for folder false statements export ≡ Ok (Applies (record { folder = folder; statements = statements; rows = rows }))
unfolding plan_for
plans_schemas folder statements export rows taken opened =
    let found : schemas_for false statements export.cat ≡ Some rows = ap (λ b. cond b (result_ok (opening_in export.cat)) None) taken ∙ ap result_ok opened in
    ap (plan_with folder false statements export) found

pub planned : (target : Bytes) (script : ScriptSource) (second : Tree) (input : Bytes) (text : Bytes) (statements : List Located) (rows : List SchemaRow) → source_of script second input ≡ Ok text → script_of text ≡ Ok statements → opening_of target second ≡ Ok rows → psql_due target script false second input ≡ Ok (Applies (record { folder = target; statements = statements; rows = rows }))
unfolding psql_due text_due opening_of
planned target script second input text statements rows passed reads opened =
    let taken = script_taken text statements reads in
    let export = bind_ok (export_of target second) (λ export. opening_in export.cat) rows opened in
    ap (λ (r : Result Bytes Outcome). r >>= λ text. text_due target false text second) passed
    ∙ ap (λ (r : Result (List Located) Outcome). r >>= λ statements. export_of target second >>= λ export. plan_for target false statements export) taken.reads
    ∙ ap (λ (r : Result Exported Outcome). r >>= λ export. plan_for target false statements export) export.1
    ∙ plans_schemas target statements export.0 rows taken.taken export.2

-- ---- a folder of schemas alone is an opening

no_tables : (rows : List SchemaRow) (texts : TextsByOid) → rows_fault (schemas_alone rows) texts ≡ None
unfolding rows_fault table_oids by_number
no_tables rows texts = refl

pub taken_in : (folder : Bytes) (tree : Tree) (export : Exported) (rows : List SchemaRow) → export_of folder tree ≡ Ok export → export.cat ≡ schemas_alone rows → opened_folder folder tree ≡ Ok export
unfolding opened_folder
taken_in folder tree export rows read is =
    let none : rows_fault export.cat export.rows ≡ None = ap (λ (cat : Catalogue). rows_fault cat export.rows) is ∙ no_tables rows export.rows in
    ap (λ (r : Result Exported Outcome). r >>= opened) read
    ∙ ap (λ f. meet f >>= λ done. Ok export) none
