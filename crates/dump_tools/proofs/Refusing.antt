-- No refusal that is due is Done.
use Rattle.std.proofs.Common.{not, ◌≡◌, ℕ, Bool, true, false, cond, ◌+◌, List, length, Option, Some, None, Result, Ok, Err, nat_le, ap}
use Rattle.dump_ports.specs.Tree.{Tree, text_at}
use Rattle.cat_names.specs.declared.fault.CatFault.{CatFault}
use Rattle.cat_names.specs.declared.fault.FaultKind.{FaultKind}
use Rattle.cat_names.specs.declared.fault.FaultKind.TheVariants as kinds
use Rattle.well_formed.specs.Catalogues.{catalogue_fault}
use Rattle.table_rows.specs.declared.fault.ValuesFault.{ValuesFault}
use Rattle.table_rows.specs.Values.{values_fault}
use Rattle.folder_io.specs.declared.fault.FolderFault.{FolderFault}
use Rattle.folder_io.specs.declared.fault.FolderFault.TheVariants as folders
use Rattle.folder_io.specs.Folders.{bytes_of, catalogue_of}
use Rattle.folder_rows.specs.Reading.{data_of}
use Rattle.cat_rows.specs.declared.table.SysTable.TheVariants.{PgNamespace}
use Rattle.cat_model.specs.Values.{Bytes}
use Rattle.ddl_read.specs.fault.DdlFault.{DdlFault}
use Rattle.ddl_read.specs.located.Located.{Located}
use Rattle.ddl_read.specs.Reading.{statements_of}
use Rattle.schema_folders.specs.declared.schemas.SchemaRow.{SchemaRow}
use Rattle.tool_words.specs.declared.outcome.Limit.{Limit}
use Rattle.tool_words.specs.declared.outcome.Limit.TheVariants.{Script, Archive as ArchiveLimit}
use Rattle.tool_words.specs.declared.outcome.Outcome.{Outcome}
use Rattle.tool_words.specs.declared.outcome.Outcome.TheVariants.{Done, TooLarge}
use Rattle.tool_words.specs.Answers.{◌>>=◌}
use Rattle.command_line.specs.declared.command.Command.{Command}
use Rattle.command_line.specs.declared.usage.UsageFault.{UsageFault}
use Rattle.command_line.specs.Usage.{command_from}
use Rattle.tool_words.specs.declared.words.Asked.{Asked}
use Rattle.tool_words.specs.declared.words.Asked.TheVariants.{Psql, Dump, Archive, Restore, Compare}
use Rattle.tool_words.specs.declared.words.ScriptSource.{ScriptSource}
use Rattle.tool_words.specs.declared.words.ScriptSource.TheVariants.{File, Input}
use Rattle.tool_words.specs.declared.words.DumpAsked.{DumpAsked}
use Rattle.tool_words.specs.declared.words.ArchiveAsked.{ArchiveAsked}
use Rattle.tool_words.specs.declared.words.RestoreAsked.{RestoreAsked}
use Rattle.command_line.specs.declared.command.RestoreWords.{RestoreWords}
use Rattle.restore_texts.specs.Texts.{custom_due, archive_due}
use Rattle.restore_words.specs.Words.{options_of, format_of}
use Rattle.restore_outcomes.specs.Texts.{wish_of, path_text, input_text}
use Rattle.restore_outcomes.proofs.Passing.{told_never as archive_never}
use Rattle.restore_input.specs.Inputs.{Input as RestoreTaken, input_due, custom_input_due}
use Rattle.restore_plan.specs.declared.entry.Entry as planned
use Rattle.restore_steps.specs.declared.fault.PlanFault.{PlanFault}
use Rattle.restore_steps.specs.declared.fault.PlanFault.TheVariants as plans
use Rattle.restore_runs.specs.Wanted.{wanted_due}
use Rattle.restore_tools.specs.Works.{in_entries, with_role, work_due}
use Rattle.restore_tools.specs.Due.{path_taken, bytes_taken, taken_of, work_of, restore_due as restoring_due}
use Rattle.tool_words.specs.Words.{asked_of, built, asked_by, words_asked}
use Rattle.dump_ports.specs.declared.moment.Moment.{Moment}
use Rattle.toc_entry.specs.declared.entry.Entry.{Entry}
use Rattle.cat_rows.specs.declared.catalogue.Catalogue.{Catalogue}
use Rattle.obj_graph.specs.declared.select.Select.{Select}
use Rattle.dump_toc.specs.Toc.{Refusal, no_match, looping, too_many, toc}
use Rattle.dump_files.specs.declared.stop.DumpStop.{DumpStop}
use Rattle.dump_files.specs.declared.stop.DumpStop.TheVariants as stops
use Rattle.dump_files.specs.Needed.{unready}
use Rattle.dump_outputs.specs.declared.form.DumpForm.{DumpForm}
use Rattle.dump_plans.specs.Choosing.{select_of}
use Rattle.dump_plans.specs.Outcomes.{refusal_outcome, toc_told, ready_told}
use Rattle.dump_plans.specs.Plans.{data_files, dumping_of}
use Rattle.schema_folders.specs.Texts.{within, file_of}
use Rattle.cat_names.specs.Naming.{boot as boot_role}
use Rattle.cat_load.specs.declared.meeting.LoadFault.{LoadFault}
use Rattle.cat_load.specs.Loads.{rows_fault}
use Rattle.openings.specs.Openings.{meet, opened, opened_folder}
use Rattle.cat_rows.specs.Catalogues.{rows_in}
use Rattle.schema_folders.specs.Folder.{is_bare, schemas_of, opening_in, opening_of, or_unbuilt}
use Rattle.tool_words.specs.Outcomes.{fault_outcome}
use Rattle.exports.specs.Cells.{catalogue_with}
use Rattle.exports.specs.Exports.{Exported, formed_of, told, well_formed, have_rows, export_with, export_of}
use Rattle.dump_tools.specs.Due.{script_limit, input_of, source_of, scripted, script_read, schemas_for, runs_as, plan_with, plan_for, text_due, psql_due, form_of, formed_due, dump_due, text_of_input, text_of_archive, restore_due, piped_archive, restored_due, folder_due, second_due, compare_due, asked_due, due}

same : (A B : Type 0) (o : Outcome) → ◌≡◌ {A = Result B Outcome} (Err o) (Err Done) → ◌≡◌ {A = Result A Outcome} (Err o) (Err Done)
same A B o e = ap Err (inner B o e)
  where
    inner : (B : Type 0) (o : Outcome) → ◌≡◌ {A = Result B Outcome} (Err o) (Err Done) → o ≡ Done
    inner B o e = cc

bind_never : {A B : Type 0} (r : Result A Outcome) (f : A → Result B Outcome) → (r ≡ Err Done → ⊥) → ((x : A) → f x ≡ Err Done → ⊥) → (r >>= f) ≡ Err Done → ⊥
bind_never (Ok x) f n m e = m x e
bind_never {A = A} {B = B} (Err o) f n m e = n (same A B o e)

ok_never : {Y : Type 0} (x : Y) → Ok x ≡ Err Done → ⊥
ok_never x e = cc

within_never : (what : Limit) (limit : ℕ) (name : List ℕ) (found : Option (List ℕ)) → within what limit name found ≡ Err Done → ⊥
within_never what limit name None e = cc
within_never what limit name (Some text) e = by_length (nat_le (length text) limit) e
  where
    by_length : (b : Bool) → cond {A = Result Bytes Outcome} b (Ok text) (Err (TooLarge what (limit + 1))) ≡ Err Done → ⊥
    by_length true h = cc
    by_length false h = cc

file_never : (what : Limit) (limit : ℕ) (name : List ℕ) (tree : Tree) → file_of what limit name tree ≡ Err Done → ⊥
unfolding file_of
file_never what limit name tree e = within_never what limit name (text_at tree name) e

unbuilt_never : (plain : Bool) (found : Option (List SchemaRow)) → or_unbuilt plain found ≡ Err Done → ⊥
unbuilt_never plain None e = cc
unbuilt_never true (Some rows) e = cc
unbuilt_never false (Some rows) e = cc

told_never : {A : Type 0} (r : Result A FolderFault) → told r ≡ Err Done → ⊥
told_never (Ok x) e = cc
told_never (Err folders.Failed) e = cc
told_never (Err (folders.Missing name)) e = cc
told_never (Err (folders.BadExport file line kind)) e = cc
told_never (Err (folders.TooLarge limit n)) e = cc
told_never (Err folders.Memory) e = cc

formed_never : (found : Option CatFault) → well_formed found ≡ Err Done → ⊥
formed_never None e = cc
formed_never (Some fault) e = by_kind fault.kind e
  where
    by_kind : (kind : FaultKind) → ◌≡◌ {A = Result (Unit {0}) Outcome} (Err (fault_outcome fault kind)) (Err Done) → ⊥
    by_kind kinds.RepeatedOid h = cc
    by_kind kinds.RepeatedName h = cc
    by_kind kinds.Dangling h = cc
    by_kind kinds.BadText h = cc
    by_kind (kinds.OutOfProfile left) h = cc

rows_never : (found : Option ValuesFault) → have_rows found ≡ Err Done → ⊥
rows_never None e = cc
rows_never (Some fault) e = cc

export_never : (folder : Bytes) (tree : Tree) → export_of folder tree ≡ Err Done → ⊥
unfolding export_of export_with
export_never folder tree e =
    bind_never (told (catalogue_of folder tree)) _ (told_never (catalogue_of folder tree))
    (λ tables. bind_never (well_formed (catalogue_fault (catalogue_with tables))) _ (formed_never (catalogue_fault (catalogue_with tables)))
    (λ formed. bind_never (told (data_of folder (bytes_of folder tree) (catalogue_with tables) tree)) _ (told_never (data_of folder (bytes_of folder tree) (catalogue_with tables) tree))
    (λ rows. bind_never (have_rows (values_fault (catalogue_with tables) rows)) _ (rows_never (values_fault (catalogue_with tables) rows))
    (λ held h. ok_never _ h)))) e

opening_never : (folder : Bytes) (tree : Tree) → opening_of folder tree ≡ Err Done → ⊥
unfolding opening_of
opening_never folder tree e =
    bind_never (export_of folder tree) (λ export. opening_in export.cat) (export_never folder tree)
    (λ export h. unbuilt_never (is_bare export.cat) (schemas_of (rows_in PgNamespace export.cat)) h) e

scripted_never : (r : Result (List Located) DdlFault) → scripted r ≡ Err Done → ⊥
scripted_never (Err fault) e = cc
scripted_never (Ok statements) e = cc

script_never : (text : List ℕ) → script_read text ≡ Err Done → ⊥
unfolding script_read
script_never text e = scripted_never (statements_of text) e

meet_never : (fault : Option LoadFault) → meet fault ≡ Err Done → ⊥
meet_never None e = cc
meet_never (Some fault) e = cc

opened_never : (export : Exported) → opened export ≡ Err Done → ⊥
opened_never export e = bind_never (meet (rows_fault export.cat export.rows)) _ (meet_never (rows_fault export.cat export.rows)) (λ done h. ok_never _ h) e

folder_never : (folder : Bytes) (tree : Tree) → opened_folder folder tree ≡ Err Done → ⊥
unfolding opened_folder
folder_never folder tree e = bind_never (export_of folder tree) opened (export_never folder tree) opened_never e

runs_never : (folder : Bytes) (stop : Bool) (statements : List Located) (export : Exported) (boot : Option Bytes) → runs_as folder stop statements export boot ≡ Err Done → ⊥
runs_never folder stop statements export None e = cc
runs_never folder stop statements export (Some role) e = cc

plan_never : (folder : Bytes) (stop : Bool) (statements : List Located) (export : Exported) → plan_for folder stop statements export ≡ Err Done → ⊥
unfolding plan_for
plan_never folder stop statements export e = by (schemas_for stop statements export.cat) e
  where
    by : (schemas : Option (List SchemaRow)) → plan_with folder stop statements export schemas ≡ Err Done → ⊥
    by None h = bind_never (opened export) _ (opened_never export) (λ opening h. runs_never folder stop statements opening (boot_role opening.cat) h) h
    by (Some rows) h = cc

input_never : (what : Limit) (limit : ℕ) (input : Bytes) → input_of what limit input ≡ Err Done → ⊥
unfolding input_of
input_never what limit input e = by_length (nat_le (length input) limit) e
  where
    by_length : (b : Bool) → cond {A = Result Bytes Outcome} b (Ok input) (Err (TooLarge what (limit + 1))) ≡ Err Done → ⊥
    by_length true h = cc
    by_length false h = cc

source_never : (script : ScriptSource) (tree : Tree) (input : Bytes) → source_of script tree input ≡ Err Done → ⊥
source_never (File name) tree input e = file_never Script script_limit name tree e
source_never Input tree input e = input_never Script script_limit input e

text_never : (folder : Bytes) (stop : Bool) (text : Bytes) (tree : Tree) → text_due folder stop text tree ≡ Err Done → ⊥
unfolding text_due
text_never folder stop text tree e =
    bind_never (script_read text) _ (script_never text)
    (λ statements. bind_never (export_of folder tree) _ (export_never folder tree)
    (λ export h. plan_never folder stop statements export h)) e

psql_never : (folder : Bytes) (script : ScriptSource) (stop : Bool) (tree : Tree) (input : Bytes) → psql_due folder script stop tree input ≡ Err Done → ⊥
unfolding psql_due
psql_never folder script stop tree input e = bind_never (source_of script tree input) (λ text. text_due folder stop text tree) (source_never script tree input) (λ text h. text_never folder stop text tree h) e

formed_of_never : (folder : Bytes) (tree : Tree) → formed_of folder tree ≡ Err Done → ⊥
unfolding formed_of
formed_of_never folder tree e =
    bind_never (told (catalogue_of folder tree)) _ (told_never (catalogue_of folder tree))
    (λ tables. bind_never (well_formed (catalogue_fault (catalogue_with tables))) _ (formed_never (catalogue_fault (catalogue_with tables))) (λ formed h. ok_never _ h)) e

refusal_never : (refusal : Refusal) → ◌≡◌ {A = Result (List Entry) Outcome} (Err (refusal_outcome refusal)) (Err Done) → ⊥
refusal_never (no_match fault) e = cc
refusal_never (looping path) e = cc
refusal_never (too_many count) e = cc

toc_never : (r : Result (List Entry) Refusal) → toc_told r ≡ Err Done → ⊥
toc_never (Ok entries) e = cc
toc_never (Err refusal) e = refusal_never refusal e

ready_never : {X : Type 0} (x : X) (found : Option DumpStop) → ready_told x found ≡ Err Done → ⊥
ready_never x None e = cc
ready_never x (Some (stops.Missing name)) e = cc
ready_never x (Some (stops.TooLarge size)) e = cc
ready_never x (Some stops.ReadFault) e = cc
ready_never x (Some (stops.BadRows table first)) e = cc
ready_never x (Some stops.WriteFault) e = cc
ready_never x (Some stops.Memory) e = cc

dumping_never : (folder : Bytes) (select : Select) (cat : Catalogue) (tree : Tree) → dumping_of folder select cat tree ≡ Err Done → ⊥
unfolding dumping_of
dumping_never folder select cat tree e =
    bind_never (toc_told (toc cat select)) _ (toc_never (toc cat select)) (λ entries h. ready_never _ (unready tree (data_files folder cat entries)) h) e

formed_due_never : (asked : DumpAsked) (form : Option DumpForm) (moment : Moment) (cat : Catalogue) (tree : Tree) → formed_due asked form moment cat tree ≡ Err Done → ⊥
formed_due_never asked None moment cat tree e = cc
formed_due_never asked (Some form) moment cat tree e = bind_never (dumping_of asked.folder (select_of asked.choice) cat tree) _ (dumping_never asked.folder (select_of asked.choice) cat tree) (λ dump h. ok_never _ h) e

dump_never : (asked : DumpAsked) (moment : Moment) (tree : Tree) → dump_due asked moment tree ≡ Err Done → ⊥
unfolding dump_due
dump_never asked moment tree e =
    bind_never (formed_of asked.folder tree) _ (formed_of_never asked.folder tree)
    (λ cat h. formed_due_never asked (form_of asked.format asked.target (not asked.choice.no_owner)) moment cat tree h) e

path_never : (words : RestoreWords) (path : Bytes) (tree : Tree) → path_text words path tree ≡ Err Done → ⊥
unfolding path_text
path_never words path tree e = archive_never (archive_due (wish_of words) (options_of words) words.use_list (format_of words.format) tree path) e

bytes_never : (words : RestoreWords) (bytes : Bytes) (tree : Tree) → input_text words bytes tree ≡ Err Done → ⊥
unfolding input_text
bytes_never words bytes tree e = archive_never (custom_due (wish_of words) (options_of words) words.use_list tree bytes) e

input_text_never : (words : RestoreWords) (tree : Tree) (input : Bytes) → text_of_input words tree input ≡ Err Done → ⊥
unfolding text_of_input
input_text_never words tree input e =
    bind_never (input_of ArchiveLimit script_limit input) (λ bytes. input_text words bytes tree) (input_never ArchiveLimit script_limit input) (λ bytes h. bytes_never words bytes tree h) e

archive_text_never : (archive : Option Bytes) (words : RestoreWords) (tree : Tree) (input : Bytes) → text_of_archive archive words tree input ≡ Err Done → ⊥
unfolding text_of_archive
archive_text_never (Some path) words tree input e = path_never words path tree e
archive_text_never None words tree input e = input_text_never words tree input e

restore_never : (asked : ArchiveAsked) (tree : Tree) (input : Bytes) → restore_due asked tree input ≡ Err Done → ⊥
unfolding restore_due
restore_never asked tree input e =
    bind_never (text_of_archive asked.archive asked.words tree input) _ (archive_text_never asked.archive asked.words tree input) (λ text h. ok_never _ h) e

-- a restore into a folder
taken_never : (archive : Option Bytes) (words : RestoreWords) (piped : Bytes) (tree : Tree) → taken_of archive words piped tree ≡ Err Done → ⊥
unfolding taken_of path_taken bytes_taken
taken_never (Some path) words piped tree e = archive_never (input_due (options_of words) words.use_list (format_of words.format) tree path) e
taken_never None words piped tree e = archive_never (custom_input_due (options_of words) words.use_list tree piped) e

entries_never : (r : Result (List planned.Entry) PlanFault) → in_entries r ≡ Err Done → ⊥
entries_never (Ok wanted) e = cc
entries_never (Err (plans.BadDefn entry fault)) e = cc
entries_never (Err (plans.OutOfProfile entry what)) e = cc

role_never : (owners : Bool) (taken : RestoreTaken) (opening : Exported) (role : Option Bytes) → with_role owners taken opening role ≡ Err Done → ⊥
role_never owners taken opening None e = cc
role_never owners taken opening (Some role) e =
    bind_never (in_entries (wanted_due owners taken.entries taken.texts)) _ (entries_never (wanted_due owners taken.entries taken.texts)) (λ wanted h. ok_never _ h) e

work_never : (owners : Bool) (folder : Bytes) (taken : RestoreTaken) (tree : Tree) → work_due owners folder taken tree ≡ Err Done → ⊥
unfolding work_due
work_never owners folder taken tree e = bind_never (opened_folder folder tree) _ (folder_never folder tree) (λ opening h. role_never owners taken opening (boot_role opening.cat) h) e

restoring_never : (asked : RestoreAsked) (piped : Bytes) (tree : Tree) → restoring_due asked.folder asked.archive asked.words piped tree ≡ Err Done → ⊥
unfolding restoring_due work_of
restoring_never asked piped tree e =
    bind_never (taken_of asked.archive asked.words piped tree >>= λ taken. work_due (not asked.words.no_owner) asked.folder taken tree) _
    (λ h. bind_never (taken_of asked.archive asked.words piped tree) (λ taken. work_due (not asked.words.no_owner) asked.folder taken tree)
    (taken_never asked.archive asked.words piped tree) (λ taken h. work_never (not asked.words.no_owner) asked.folder taken tree h) h)
    (λ work h. ok_never _ h) e

piped_never : (archive : Option Bytes) (input : Bytes) → piped_archive archive input ≡ Err Done → ⊥
piped_never (Some path) input e = cc
piped_never None input e = input_never ArchiveLimit script_limit input e

restored_never : (asked : RestoreAsked) (piped : Bytes) (tree : Tree) → restored_due asked piped tree ≡ Err Done → ⊥
unfolding restored_due
restored_never asked piped tree e =
    bind_never (restoring_due asked.folder asked.archive asked.words piped tree) _ (restoring_never asked piped tree) (λ plan h. ok_never _ h) e

into_never : (asked : RestoreAsked) (tree : Tree) (input : Bytes) → folder_due asked tree input ≡ Err Done → ⊥
unfolding folder_due
into_never asked tree input e =
    bind_never (piped_archive asked.archive input) (λ piped. restored_due asked piped tree) (piped_never asked.archive input) (λ piped h. restored_never asked piped tree h) e

second_never : (one : Exported) (second : Bytes) (tree : Tree) → second_due one second tree ≡ Err Done → ⊥
unfolding second_due
second_never one second tree e = bind_never (opened_folder second tree) _ (folder_never second tree) (λ other h. ok_never _ h) e

compare_never : (first second : Bytes) (tree : Tree) → compare_due first second tree ≡ Err Done → ⊥
unfolding compare_due
compare_never first second tree e =
    bind_never (opened_folder first tree) (λ one. second_due one second tree) (folder_never first tree) (λ one h. second_never one second tree h) e

asked_never : (asked : Asked) (moment : Moment) (tree : Tree) (input : Bytes) → asked_due asked moment tree input ≡ Err Done → ⊥
asked_never (Psql folder script stop) moment tree input e = psql_never folder script stop tree input e
asked_never (Dump asked) moment tree input e = dump_never asked moment tree e
asked_never (Archive asked) moment tree input e = restore_never asked tree input e
asked_never (Restore asked) moment tree input e = into_never asked tree input e
asked_never (Compare first second) moment tree input e = compare_never first second tree e

built_never : (asked : Option Asked) → built asked ≡ Err Done → ⊥
built_never None e = cc
built_never (Some asked) e = cc

command_never : (command : Result Command UsageFault) → asked_by command ≡ Err Done → ⊥
command_never (Err fault) e = cc
command_never (Ok command) e = built_never (asked_of command) e

words_never : (words : List Bytes) → words_asked words ≡ Err Done → ⊥
unfolding words_asked
words_never words e = command_never (command_from words) e

-- what is due of the words, the files and standard input isn't Done as a refusal
pub due_never : (words : List Bytes) (moment : Moment) (tree : Tree) (input : Bytes) → due words moment tree input ≡ Err Done → ⊥
due_never words moment tree input e = bind_never (words_asked words) (λ asked. asked_due asked moment tree input) (words_never words) (λ asked h. asked_never asked moment tree input h) e
