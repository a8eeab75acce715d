-- What is due for the words of a command line, the files and standard input: the first refusal of its steps in their
-- order, or a plan that is carried out. And what the files hold once it is.
use Rattle.std.specs.Prelude.{◌≡◌, Bool, true, ℕ, ◌+◌, ◌≤◌, List, [], ◌∷◌, ◌++◌, length, map, Option, Some, None, option_map, Result, Ok, Err, ◌⊎◌, codes, nat_le, not, ◌&&◌, unwrap_or, if◌then◌else◌}
use Rattle.std.specs.List.{All, AllByRecursion, IsDistinct}
use Rattle.std.specs.List.Sorted.{IsPermutation}
use Rattle.cat_rows.specs.declared.table.SysTable.TheVariants.{PgNamespace}
use Rattle.cat_rows.specs.Writing.{IsWritten}
use Rattle.std.specs.Ordering.{nat_cmp, eq_by_cmp}
use Rattle.dump_ports.specs.Tree.{Tree}
use Rattle.dump_ports.specs.Faults.{HasRisen, HasNotRisen}
use Rattle.cat_model.specs.Values.{Bytes, bytes_cmp, Named}
use Rattle.cat_model.specs.declared.key.Key.{Key}
use Rattle.std.specs.Result.{result_ok}
use Rattle.cat_rows.specs.declared.catalogue.Catalogue.{Catalogue}
use Rattle.cat_names.specs.Naming.{boot as boot_role}
use Rattle.cat_sound.specs.Fit.{IsFit}
use Rattle.ddl_read.specs.Spellings.{said as statements_in}
use Rattle.sound_texts.specs.Grammar.{grammar}
use Rattle.cat_model.specs.declared.words.What.TheVariants.{Unbuilt}
use Rattle.ddl_read.specs.fault.DdlFault.{DdlFault}
use Rattle.ddl_read.specs.Reading.{statements_of}
use Rattle.openings.specs.Openings.{opened, opened_folder, export_named}
use Rattle.saved_folders.specs.Folders.{Texts, folder_saved as folder_stored}
use Rattle.saved_folders.specs.Exports.{ReadsAs}
use Rattle.cat_same.specs.Verdicts.{IsLeastDifference}
use Rattle.schema_folders.specs.declared.schemas.SchemaRow.{SchemaRow}
use Rattle.ddl_read.specs.located.Located.{Located}
use Rattle.tool_words.specs.declared.outcome.Limit.{Limit}
use Rattle.tool_words.specs.declared.outcome.Limit.TheVariants.{Script as ScriptLimit, Archive as ArchiveLimit}
use Rattle.tool_words.specs.declared.outcome.Outcome.{Outcome}
use Rattle.tool_words.specs.declared.outcome.Outcome.TheVariants.{Done, ReadFault, WriteFault, BadScript, OutOfProfile, TooLarge, Differs, ScriptStopped, Memory}
use Rattle.tool_words.specs.Answers.{◌>>=◌, IsDue}
use Rattle.tool_words.specs.declared.words.Asked.{Asked}
use Rattle.tool_words.specs.declared.words.Asked.TheVariants.{Psql, Dump, Archive, Restore, Compare}
use Rattle.tool_words.specs.declared.words.ScriptSource.{ScriptSource}
use Rattle.tool_words.specs.declared.words.ScriptSource.TheVariants.{File, Input}
use Rattle.tool_words.specs.declared.words.DumpAsked.{DumpAsked}
use Rattle.tool_words.specs.declared.words.ArchiveAsked.{ArchiveAsked}
use Rattle.tool_words.specs.declared.words.RestoreAsked.{RestoreAsked}
use Rattle.command_line.specs.declared.command.RestoreWords.{RestoreWords}
use Rattle.restore_outcomes.specs.Texts.{path_text, input_text}
use Rattle.restore_tools.specs.Due.{Restoring, ending as restored, answer_due, restore_due as restoring_due}
use Rattle.restore_tools.specs.Standing.{IsCarriedOut as HasRestored}
use Rattle.dump_tools.specs.Outputs.{Output, Tells, world, all_performed, puts}
use Rattle.tool_words.specs.Words.{words_asked}
use Rattle.script_runs.specs.Stopping.{ending, told}
use Rattle.script_runs.specs.Writing.{NoOidIsLeft, IsPastLimit, IsMadeOf}
use Rattle.dump_ports.specs.declared.moment.Moment.{Moment}
use Rattle.schema_folders.specs.Texts.{file_of}
use Rattle.exports.specs.Exports.{Exported, formed_of, export_of}
use Rattle.schema_folders.specs.Statements.{are_taken}
use Rattle.dump_tools.specs.declared.psql.Work.{Work}
use Rattle.dump_tools.specs.declared.psql.Work.TheVariants as work
use Rattle.dump_tools.specs.declared.psql.ScriptWork.{ScriptWork}
use Rattle.schema_folders.specs.Folder.{opening_in, cells_of_row, schemas_alone, Holds, folder_saved}
use Rattle.tool_words.specs.Lines.{Appends}
use Rattle.schema_folders.specs.Naming.{boot, named}
use Rattle.tool_words.specs.Messages.{Refusal, report, outcome_line}
use Rattle.tool_words.specs.declared.words.Teller.TheVariants as teller
use Rattle.command_line.specs.declared.options.Tool.TheVariants as tool
use Rattle.toc_entry.specs.declared.head.Head.{Head}
use Rattle.dump_plain.specs.Dumps.{BadRow}
use Rattle.dump_toc.specs.Session.{current_database}
use Rattle.dump_outputs.specs.declared.form.DumpForm.{DumpForm}
use Rattle.dump_outputs.specs.declared.form.DumpForm.TheVariants.{Script, Custom, Directory}
use Rattle.dump_outputs.specs.Forms.{Putting, one_piece, dump_put}
use Rattle.dump_outputs.specs.Pieces.{Piece, IsFront}
use Rattle.command_line.specs.declared.values.Format.{Format}
use Rattle.command_line.specs.declared.values.Format.TheVariants as format
use Rattle.obj_graph.specs.declared.select.Select.{Select}
use Rattle.dump_plans.specs.Choosing.{select_of}
use Rattle.dump_plans.specs.Outcomes.{bad_row_outcome}
use Rattle.dump_plans.specs.Plans.{Dumping, dumping_of}
use Rattle.schema_folders.specs.Run.{catalogue_after, refusals, IsUsers}

-- a script of schemas, to apply to a folder whose only objects they are
pub record Application : Type 0 where
  pub folder : Bytes
  pub statements : List Located
  pub rows : List SchemaRow

-- any other script, to run on an opening, to its end or to the first statement that is refused; what it creates belongs to
-- this role
pub record Running : Type 0 where
  pub folder : Bytes
  pub boot : Bytes
  pub stop : Bool
  pub statements : List Located
  pub opening : Exported

-- what a tool does once all is read
pub data Plan : Type 0 where
  -- psql applies a script of schemas to a folder of schemas
  Applies : Application → Plan
  -- psql runs a script on a folder
  Runs : Running → Plan
  -- pg_dump puts a dump where it is asked for, up to a row that fails, and pg_restore the list or the script of an archive
  Puts : Putting → Plan
  -- pg_restore restores an archive into a folder
  Restores : Restoring → Plan
  -- pg_catcmp compares two catalogues by names
  Compares : Named → Named → Plan

abbrev pub script_limit : ℕ
script_limit = 268435456

-- all of standard input, which has at most so many bytes
unfoldable pub input_of : Limit → ℕ → Bytes → Result Bytes Outcome
input_of what limit input = if nat_le (length input) limit then Ok input else Err (TooLarge what (limit + 1))

-- the text of a script, wherever it is read
abbrev pub source_of : ScriptSource → Tree → Bytes → Result Bytes Outcome
source_of (File name) tree input = file_of ScriptLimit script_limit name tree
source_of Input tree input = input_of ScriptLimit script_limit input

-- what a text is that was read: its first fault, or its statements
abbrev pub scripted : Result (List Located) DdlFault → Result (List Located) Outcome
scripted (Err fault) = Err (BadScript fault)
scripted (Ok statements) = Ok statements

-- the statements of a script
unfoldable pub script_read : Bytes → Result (List Located) Outcome
script_read text = scripted (statements_of text)

-- the schemas of a catalogue, where they are its only objects, and the statements are all of schemas and run to their end
abbrev pub schemas_for : Bool → List Located → Catalogue → Option (List SchemaRow)
schemas_for stop statements cat = if not stop && are_taken statements then result_ok (opening_in cat) else None

abbrev pub runs_as : Bytes → Bool → List Located → Exported → Option Bytes → Result Plan Outcome
runs_as folder stop statements export None = Err (OutOfProfile Unbuilt)
runs_as folder stop statements export (Some role) = Ok (Runs (record { folder = folder; boot = role; stop = stop; statements = statements; opening = export }))

-- a script to run on an export: the rows of each table have to meet it
abbrev pub running : Bytes → Bool → List Located → Exported → Result Plan Outcome
running folder stop statements export = opened export >>= λ opening. runs_as folder stop statements opening (boot_role opening.cat)

abbrev pub plan_with : Bytes → Bool → List Located → Exported → Option (List SchemaRow) → Result Plan Outcome
plan_with folder stop statements export None = running folder stop statements export
plan_with folder stop statements export (Some rows) = Ok (Applies (record { folder = folder; statements = statements; rows = rows }))

-- what psql does with a script's statements and a folder's export
unfoldable pub plan_for : Bytes → Bool → List Located → Exported → Result Plan Outcome
plan_for folder stop statements export = plan_with folder stop statements export (schemas_for stop statements export.cat)

-- once the statements of the script are read: the folder
abbrev pub statements_due : Bytes → Bool → List Located → Tree → Result Plan Outcome
statements_due folder stop statements tree = export_of folder tree >>= λ export. plan_for folder stop statements export

-- once the text of the script is read: its statements, then the folder
unfoldable pub text_due : Bytes → Bool → Bytes → Tree → Result Plan Outcome
text_due folder stop text tree = do
  statements ← script_read text
  export ← export_of folder tree
  plan_for folder stop statements export

-- psql: the script is read, then the folder
unfoldable pub psql_due : Bytes → ScriptSource → Bool → Tree → Bytes → Result Plan Outcome
psql_due folder script stop tree input = do
  text ← source_of script tree input
  text_due folder stop text tree

-- the version that a dump tells, of the database and of the tool
abbrev pub version : Bytes
version = codes "16.0"

-- the head of a dump in the format of this code, which tells the two versions and the database's name
abbrev pub head_of : ℕ → Bytes → Moment → Head
head_of format name moment = record { major = 1; minor = 15; revision = 0; format = format; compression = 0; moment = moment; dbname = name; server = version; dumper = version }

-- the code of the format
abbrev pub code_of : DumpForm → ℕ
code_of (Script target owners) = 4
code_of (Custom target) = 1
code_of (Directory folder) = 3

-- the name of the current database, which a well-formed catalogue has
abbrev pub database_name : Catalogue → Bytes
database_name cat = unwrap_or (option_map (λ d. d.datname) (current_database cat)) []

-- how a dump is written, and where; a folder has to be named
abbrev pub form_of : Format → Option Bytes → Bool → Option DumpForm
form_of format.Plain target owners = Some (Script target owners)
form_of format.Custom target owners = Some (Custom target)
form_of format.Directory (Some folder) owners = Some (Directory folder)
form_of format.Directory None owners = None

unfoldable pub put_of : Tree → DumpForm → Head → Dumping → Putting
put_of tree form head dump = dump_put tree form head dump.entries dump.files

-- what is selected of a catalogue, in this form
abbrev pub selected_due : Bytes → Select → DumpForm → Head → Catalogue → Tree → Result Plan Outcome
selected_due folder select form head cat tree = dumping_of folder select cat tree >>= λ dump. Ok (Puts (put_of tree form head dump))

abbrev pub formed_due : DumpAsked → Option DumpForm → Moment → Catalogue → Tree → Result Plan Outcome
formed_due asked None moment cat tree = Err (OutOfProfile Unbuilt)
formed_due asked (Some form) moment cat tree = selected_due asked.folder (select_of asked.choice) form (head_of (code_of form) (database_name cat) moment) cat tree

-- once the catalogue is read: what the words choose of it, in the format that they ask for
abbrev pub chosen_due : DumpAsked → Moment → Tree → Catalogue → Result Plan Outcome
chosen_due asked moment tree cat = formed_due asked (form_of asked.format asked.target (not asked.choice.no_owner)) moment cat tree

-- pg_dump: the folder's catalogue is read, and no data file; then comes what is chosen of it
unfoldable pub dump_due : DumpAsked → Moment → Tree → Result Plan Outcome
dump_due asked moment tree = formed_of asked.folder tree >>= chosen_due asked moment tree

-- what is written of the archive that all of standard input is
unfoldable pub text_of_input : RestoreWords → Tree → Bytes → Result Bytes Outcome
text_of_input words tree input = input_of ArchiveLimit script_limit input >>= λ bytes. input_text words bytes tree

-- and of an archive wherever it is
unfoldable pub text_of_archive : Option Bytes → RestoreWords → Tree → Bytes → Result Bytes Outcome
text_of_archive (Some path) words tree input = path_text words path tree
text_of_archive None words tree input = text_of_input words tree input

-- pg_restore, where no folder is restored into: the archive is read, whole, and what is asked for is put where it goes
unfoldable pub restore_due : ArchiveAsked → Tree → Bytes → Result Plan Outcome
restore_due asked tree input = text_of_archive asked.archive asked.words tree input >>= λ text. Ok (Puts (one_piece asked.target text None))

-- what is taken of standard input: all of it, where the archive stands there
abbrev pub piped_archive : Option Bytes → Bytes → Result Bytes Outcome
piped_archive (Some path) input = Ok []
piped_archive None input = input_of ArchiveLimit script_limit input

-- once it is taken: the archive is read, then the folder, and then the texts of the entries
unfoldable pub restored_due : RestoreAsked → Bytes → Tree → Result Plan Outcome
restored_due asked piped tree = restoring_due asked.folder asked.archive asked.words piped tree >>= λ plan. Ok (Restores plan)

-- pg_restore into a folder: all is read before anything is restored
unfoldable pub folder_due : RestoreAsked → Tree → Bytes → Result Plan Outcome
folder_due asked tree input = piped_archive asked.archive input >>= λ piped. restored_due asked piped tree

-- once the first is read: the second folder
unfoldable pub second_due : Exported → Bytes → Tree → Result Plan Outcome
second_due one second tree = do
  other ← opened_folder second tree
  Ok (Compares (export_named one) (export_named other))

-- pg_catcmp: the two folders are taken in, whole
unfoldable pub compare_due : Bytes → Bytes → Tree → Result Plan Outcome
compare_due first second tree = do
  one ← opened_folder first tree
  second_due one second tree

abbrev pub asked_due : Asked → Moment → Tree → Bytes → Result Plan Outcome
asked_due (Psql folder script stop) moment tree input = psql_due folder script stop tree input
asked_due (Dump asked) moment tree input = dump_due asked moment tree
asked_due (Archive asked) moment tree input = restore_due asked tree input
asked_due (Restore asked) moment tree input = folder_due asked tree input
asked_due (Compare first second) moment tree input = compare_due first second tree

-- what is due for the words, the moment, the files and standard input
abbrev pub due : List Bytes → Moment → Tree → Bytes → Result Plan Outcome
due words moment tree input = words_asked words >>= λ asked. asked_due asked moment tree input

-- a script of schemas for a folder with these schemas
abbrev pub application_of : Bytes → List Located → List SchemaRow → Application
application_of folder statements rows = record { folder = folder; statements = statements; rows = rows }

-- and one to run on an opening
abbrev pub running_of : Bytes → Bool → List Located → ScriptWork → Running
running_of folder stop statements work = record { folder = folder; boot = work.boot; stop = stop; statements = statements; opening = work.opening }

-- the statements with what was read of the folder
abbrev pub plan_of : Bytes → Bool → List Located → Work → Plan
plan_of folder stop statements (work.Schemas rows) = Applies (application_of folder statements rows)
plan_of folder stop statements (work.Script script) = Runs (running_of folder stop statements script)

-- statements that leave a catalogue in order, as those that are read do
abbrev pub AreFit : List Located → Type 0
AreFit statements = AllByRecursion (IsFit grammar) (statements_in statements)

-- The statements of work on schemas are all of kinds that are carried out on schemas alone. The role of any other script is
-- the opening's.
abbrev pub IsTaken : List Located → Work → Type 0
IsTaken statements (work.Schemas rows) = are_taken statements ≡ true
IsTaken statements (work.Script script) = boot_role script.opening.cat ≡ Some script.boot

-- ---- what stands once a plan is carried out

-- What the statements of a plan come to. The rows are the schemas that were there, under their oids, and those that were
-- made, each a user's; no two have the same oid or the same name. By names they are the catalogue that the statements make. The text is that of
-- pg_namespace for them, by rising oid.
pub record Comes (plan : Application) (text : Bytes) : Type 0 where
  pub made : List SchemaRow
  pub rows : List SchemaRow
  pub drawn : All IsUsers made
  pub kept : IsPermutation (plan.rows ++ made) rows
  pub same : named rows ≡ catalogue_after boot plan.statements (named plan.rows)
  pub oids : IsDistinct (λ a b. eq_by_cmp nat_cmp a.oid b.oid) rows
  pub names : IsDistinct (λ a b. eq_by_cmp bytes_cmp a.name b.name) rows
  pub written : IsWritten PgNamespace (map cells_of_row (plan.rows ++ made)) (map cells_of_row rows) [] text

-- The folder was written: each of its files holds its whole text, and a folder so written holds the catalogue of the rows.
pub record Applied (plan : Application) (before after : Option Tree) : Type 0 where
  pub text : Bytes
  pub result : Comes plan text
  pub saved : after ≡ option_map (folder_saved plan.folder text) before
  pub holds : (tree : Tree) → Holds plan.folder (folder_saved plan.folder text tree) (schemas_alone result.rows)

-- the report of a script
abbrev pub report_of : Application → List ℕ
report_of plan = report (refusals boot plan.statements (named plan.rows))

-- what the statements leave of the opening, by names
abbrev pub left_by_run : Running → Named
left_by_run plan = (ending plan.stop plan.boot plan.statements (export_named plan.opening)).left

-- These files are of a folder that is read as an export which stands for that, whatever was there before; and its tables were
-- made of the opening's, so that what had an oid has the same.
pub record Leaves (plan : Running) (texts : Texts) : Type 0 where
  pub export : Exported
  pub same : export_named export ≡ left_by_run plan
  pub reads : ReadsAs texts export
  pub made_of : IsMadeOf plan.opening.cat (left_by_run plan) export

-- The folder was written: each of its files holds its whole text.
pub record Ran (plan : Running) (before after : Option Tree) : Type 0 where
  pub texts : Texts
  pub leaves : Leaves plan texts
  pub saved : after ≡ option_map (folder_stored plan.folder texts) before

-- what is told of a script that ran: each statement that was refused, or the one at which it stopped
abbrev pub report_of_run : Running → List ℕ
report_of_run plan = told plan.stop plan.boot plan.statements (export_named plan.opening)

abbrev pub stop_answer : Option Refusal → Outcome
stop_answer None = Done
stop_answer (Some refusal) = ScriptStopped refusal

-- the answer once it ran
abbrev pub answer_of_run : Running → Outcome
answer_of_run plan = stop_answer (ending plan.stop plan.boot plan.statements (export_named plan.opening)).stopped

-- an answer with which all was carried out
abbrev pub IsFinal : Outcome → Type 0
IsFinal ReadFault = ⊥
IsFinal WriteFault = ⊥
IsFinal Memory = ⊥
IsFinal answer = Unit {0}

-- the answer once a dump is printed, up to a row that fails
abbrev pub dump_answer : Option BadRow → Outcome
dump_answer None = Done
dump_answer (Some bad) = bad_row_outcome bad

-- the answer once a plan is carried out
abbrev pub answer_of : Plan → Outcome
answer_of (Applies plan) = Done
answer_of (Runs plan) = answer_of_run plan
answer_of (Puts plan) = dump_answer plan.bad
answer_of (Restores plan) = answer_due plan
answer_of (Compares a b) = Done

-- pg_dump's line of an answer
abbrev pub dump_line : Outcome → List ℕ
dump_line answer = outcome_line (teller.Tool tool.PgDump) answer

-- outputs were put out, one after another, and nothing else has changed, whatever is left of standard input
abbrev pub WerePut : List Output → Option Tree → Option Tree → Option (List ℕ) → Option (List ℕ) → Option (List ℕ) → Option (List ℕ) → Type 0
WerePut outputs before after out_before out_after told_before told_after = (left : Option Bytes) → world after left out_after told_after ≡ all_performed outputs (world before left out_before told_before)

-- texts were put out; where a row fails some first part of them, and its line was told
abbrev pub were_put_by : List Piece → Option BadRow → Option Tree → Option Tree → Option (List ℕ) → Option (List ℕ) → Option (List ℕ) → Option (List ℕ) → Type 0
were_put_by pieces None before after out_before out_after told_before told_after = WerePut (map puts pieces) before after out_before out_after told_before told_after
were_put_by pieces (Some bad) before after out_before out_after told_before told_after =
    (front : List Piece) × IsFront pieces front × WerePut (map puts front ++ Tells (dump_line (bad_row_outcome bad)) ∷ []) before after out_before out_after told_before told_after

-- What stands of the files, of standard output and of standard error once a plan is carried out: a script was applied and
-- its report was written to standard error, or texts were put where they were asked for, or an archive was restored and its
-- report was written to standard error, or two catalogues were the same, and nothing else changed.
abbrev pub IsCarriedOut : Plan → Option Tree → Option Tree → Option (List ℕ) → Option (List ℕ) → Option (List ℕ) → Option (List ℕ) → Type 0
IsCarriedOut (Applies plan) before after out_before out_after told_before told_after =
    Applied plan before after × (out_after ≡ out_before) × Appends (report_of plan) told_before told_after
IsCarriedOut (Runs plan) before after out_before out_after told_before told_after =
    Ran plan before after × (out_after ≡ out_before) × Appends (report_of_run plan) told_before told_after
IsCarriedOut (Puts plan) before after out_before out_after told_before told_after =
    were_put_by plan.pieces plan.bad before after out_before out_after told_before told_after
IsCarriedOut (Restores plan) before after out_before out_after told_before told_after =
    HasRestored plan before after told_before told_after × (out_after ≡ out_before)
IsCarriedOut (Compares a b) before after out_before out_after told_before told_after =
    (a ≡ b) × (after ≡ before) × (out_after ≡ out_before) × (told_after ≡ told_before)

-- the plan that was due was carried out, with its answer
pub record WasDue (due : Result Plan Outcome) (answer : Outcome) (before after : Option Tree) (out_before out_after told_before told_after : Option (List ℕ)) : Type 0 where
  pub plan : Plan
  pub is_due : due ≡ Ok plan
  pub answers : answer ≡ answer_of plan
  pub carried : IsCarriedOut plan before after out_before out_after told_before told_after

-- the catalogues that are to be compared differ, and first at this key
pub record DiffersAt (due : Result Plan Outcome) (key : Key) : Type 0 where
  pub a : Named
  pub b : Named
  pub is_due : due ≡ Ok (Compares a b)
  pub least : IsLeastDifference a b key

-- an answer by which two catalogues aren't the same: the least key at which they differ, or want of memory
abbrev pub IsUnequal : Outcome → Named → Named → Type 0
IsUnequal (Differs key) a b = IsLeastDifference a b key
IsUnequal Memory a b = Unit {0}
IsUnequal outcome a b = ⊥

abbrev pub IsDifference : Outcome → Result Plan Outcome → Type 0
IsDifference (Differs key) due = DiffersAt due key
IsDifference outcome due = ⊥

-- a script is to run, or a restore, and a folder of what it leaves is past a limit
abbrev pub IsTooLarge : Outcome → Result Plan Outcome → Type 0
IsTooLarge refusal due = ((plan : Running) × (due ≡ Ok (Runs plan)) × IsPastLimit plan.opening.cat (left_by_run plan) refusal) ⊎ ((plan : Restoring) × (due ≡ Ok (Restores plan)) × IsPastLimit plan.work.opening.cat (restored plan).left refusal)

-- a script is to run, or a restore, and no oid is left for what it makes of its opening
abbrev pub LacksOids : Result Plan Outcome → Type 0
LacksOids due = ((plan : Running) × (due ≡ Ok (Runs plan)) × NoOidIsLeft plan.opening.cat) ⊎ ((plan : Restoring) × (due ≡ Ok (Restores plan)) × NoOidIsLeft plan.work.opening.cat)

-- A script is to run, or a restore, and what it leaves isn't written: its files would be over a limit of reading, or no oid is
-- left for what is new.
abbrev pub IsUnmade : Outcome → Result Plan Outcome → Type 0
IsUnmade (TooLarge limit most) due = IsTooLarge (TooLarge limit most) due
IsUnmade (OutOfProfile what) due = (what ≡ Unbuilt) × LacksOids due
IsUnmade outcome due = ⊥

-- an answer other than Done: the refusal that is due, the difference to which the plan that is due comes, or that what a
-- script or a restore leaves isn't written
abbrev pub IsAnswerDue : Outcome → Result Plan Outcome → Type 0
IsAnswerDue outcome due = IsDue outcome due ⊎ IsDifference outcome due ⊎ IsUnmade outcome due

-- an answer that no failed read gives
abbrev pub IsUnread : Outcome → Type 0
IsUnread ReadFault = ⊥
IsUnread outcome = Unit {0}

-- ---- counts of faults

-- the counts of reads of files, of reads of standard input, of writes of files, of writes to standard output and of writes
-- to standard error that failed
pub record Counts : Type 0 where
  pub reads : ℕ
  pub inputs : ℕ
  pub writes : ℕ
  pub prints : ℕ
  pub lines : ℕ

abbrev pub counts : ℕ → ℕ → ℕ → ℕ → ℕ → Counts
counts reads inputs writes prints lines = record { reads = reads; inputs = inputs; writes = writes; prints = prints; lines = lines }

-- none of them rose
pub record NoneRose (before after : Counts) : Type 0 where
  pub reads : HasNotRisen before.reads after.reads
  pub inputs : HasNotRisen before.inputs after.inputs
  pub writes : HasNotRisen before.writes after.writes
  pub prints : HasNotRisen before.prints after.prints
  pub lines : HasNotRisen before.lines after.lines

pub record NoneFell (before after : Counts) : Type 0 where
  pub reads : before.reads ≤ after.reads
  pub inputs : before.inputs ≤ after.inputs
  pub writes : before.writes ≤ after.writes
  pub prints : before.prints ≤ after.prints
  pub lines : before.lines ≤ after.lines

-- A count of reads, of files or of standard input, rose where the answer is ReadFault, one of writes where it is
-- WriteFault, and all stayed where it is neither.
abbrev pub Counted : Outcome → Counts → Counts → Type 0
Counted ReadFault before after = NoneFell before after × (HasRisen before.reads after.reads ⊎ HasRisen before.inputs after.inputs)
Counted WriteFault before after = NoneFell before after × (HasRisen before.writes after.writes ⊎ HasRisen before.prints after.prints ⊎ HasRisen before.lines after.lines)
Counted _ before after = after ≡ before

-- the same of a step
abbrev pub CountsStep : {X : Type 0} → Result X Outcome → Counts → Counts → Type 0
CountsStep (Ok x) before after = after ≡ before
CountsStep (Err outcome) before after = Counted outcome before after

-- the same of the writes alone, of files and to standard error
abbrev pub CountsWrites : {X : Type 0} → Result X Outcome → ℕ → ℕ → ℕ → ℕ → Type 0
CountsWrites (Err WriteFault) a b c d = (a ≤ b) × (c ≤ d) × (HasRisen a b ⊎ HasRisen c d)
CountsWrites _ a b c d = (b ≡ a) × (d ≡ c)
