-- Which runs of the program may come: what it takes and puts out, in order, and what it answers.
-- Where nothing is free that is one run; what a script or a restore makes may be made under any new oids.
use Rattle.std.specs.Prelude.{◌≡◌, ℕ, ◌++◌, List, [], ◌∷◌, map, Option, Some, None, Result, Ok, Err, ◌⊎◌}
use Rattle.dump_ports.specs.Tree.{Tree}
use Rattle.dump_ports.specs.Faults.{HasRisen}
use Rattle.dump_ports.specs.declared.moment.Moment.{Moment}
use Rattle.cat_rows.specs.declared.catalogue.Catalogue.{Catalogue}
use Rattle.cat_model.specs.Values.{Bytes, Named}
use Rattle.cat_model.specs.declared.key.Key.{Key}
use Rattle.cat_same.specs.Verdicts.{IsLeastDifference}
use Rattle.schema_folders.specs.Folder.{files_written, folder_saved, schemas_alone, Holds}
use Rattle.tool_words.specs.declared.outcome.Outcome.{Outcome}
use Rattle.tool_words.specs.declared.outcome.Outcome.TheVariants.{Done, ReadFault, WriteFault, OutOfProfile, TooLarge, Memory, Differs}
use Rattle.tool_words.specs.declared.words.Teller.{Teller}
use Rattle.tool_words.specs.Words.{teller_of, reads_input}
use Rattle.tool_words.specs.Messages.{outcome_line}
use Rattle.cat_model.specs.declared.words.What.TheVariants.{Unbuilt}
use Rattle.restore_tools.specs.Written.{LeavesEnding, files_written as files_restored}
use Rattle.restore_tools.specs.Due.{Restoring, ending, answer_due, report_of as report_of_restore}
use Rattle.saved_folders.specs.Exports.{WithTexts}
use Rattle.saved_folders.specs.Folders.{Texts, files_of}
use Rattle.script_runs.specs.Writing.{NoOidIsLeft, IsPastLimit}
use Rattle.dump_plain.specs.Dumps.{BadRow}
use Rattle.dump_plans.specs.Outcomes.{bad_row_outcome}
use Rattle.dump_tools.specs.Due.{Application, Running, Plan, Applies, Runs, Puts, Restores, Compares, dump_line, Comes, left_by_run, Leaves, report_of, report_of_run, answer_of_run, due}
use Rattle.dump_tools.specs.Inputs.{where_read, IsTaken, HasTaken}
use Rattle.dump_tools.specs.Outputs.{World, Output, Tells, Takes, all_performed, IsPart, CutShort, stores, puts}
use Rattle.dump_outputs.specs.Forms.{Putting}
use Rattle.dump_outputs.specs.Pieces.{Piece, IsFront}

-- what is put out, in order, and the answer
pub record Run : Type 0 where
  pub outputs : List Output
  pub answer : Outcome

abbrev pub run_of : List Output → Outcome → Run
run_of outputs answer = record { outputs = outputs; answer = answer }

-- an answer of which nothing comes but its line
abbrev pub told_run : Teller → Outcome → Run
told_run teller answer = run_of (Tells (outcome_line teller answer) ∷ []) answer

-- A script is applied: the folder's files are stored one after another, the marker last, and then the report is told. The
-- folder then holds the catalogue of the schemas that the script leaves.
pub record IsApplied (plan : Application) (run : Run) : Type 0 where
  pub text : Bytes
  pub comes : Comes plan text
  pub holds : (tree : Tree) → Holds plan.folder (folder_saved plan.folder text tree) (schemas_alone comes.rows)
  pub is : run ≡ run_of (map stores (files_written plan.folder text) ++ Tells (report_of plan) ∷ []) Done

-- A script is run: the files of the folder that stands for what it leaves are stored one after another, the marker last,
-- and then the statements that were refused are told, or the one at which it stopped.
pub record IsRan (plan : Running) (run : Run) : Type 0 where
  pub texts : Texts
  pub leaves : Leaves plan texts
  pub is : run ≡ run_of (map stores (files_of plan.folder texts) ++ Tells (report_of_run plan) ∷ []) (answer_of_run plan)

-- what a script or a restore makes of this opening isn't written
abbrev pub IsUnmadeAnswer : Catalogue → Named → Outcome → Type 0
IsUnmadeAnswer opening named (TooLarge limit most) = IsPastLimit opening named (TooLarge limit most)
IsUnmadeAnswer opening named (OutOfProfile what) = (what ≡ Unbuilt) × NoOidIsLeft opening
IsUnmadeAnswer opening named answer = ⊥

-- A script is run, or what it leaves isn't written.
abbrev pub MayBeRun : Teller → Running → Run → Type 0
MayBeRun teller plan run = IsRan plan run ⊎ ((answer : Outcome) × IsUnmadeAnswer plan.opening.cat (left_by_run plan) answer × (run ≡ told_run teller answer))

-- An archive is restored: the files of the folder that stands for what the restore leaves are stored one after another, the
-- marker last, or none where it stopped and is undone; and then its report is told.
pub record IsRestored (plan : Restoring) (run : Run) : Type 0 where
  pub texts : Option WithTexts
  pub leaves : LeavesEnding plan.work.opening.cat plan.how (ending plan) texts
  pub is : run ≡ run_of (map stores (files_restored plan.folder texts) ++ Tells (report_of_restore plan) ∷ []) (answer_due plan)

-- An archive is restored, or what the restore leaves isn't written.
abbrev pub MayBeRestored : Teller → Restoring → Run → Type 0
MayBeRestored teller plan run = IsRestored plan run ⊎ ((answer : Outcome) × IsUnmadeAnswer plan.work.opening.cat (ending plan).left answer × (run ≡ told_run teller answer))

-- Texts are put out; where a row fails some first part of them, and its line is told.
abbrev pub put_by : List Piece → Option BadRow → Run → Type 0
put_by pieces None run = run ≡ run_of (map puts pieces) Done
put_by pieces (Some bad) run = (front : List Piece) × IsFront pieces front × (run ≡ run_of (map puts front ++ Tells (dump_line (bad_row_outcome bad)) ∷ []) (bad_row_outcome bad))

abbrev pub IsPut : Putting → Run → Type 0
IsPut plan run = put_by plan.pieces plan.bad run

-- Two catalogues are compared: they are the same, or the least key at which they differ is told.
abbrev pub IsCompared : Teller → Named → Named → Run → Type 0
IsCompared teller a b run = ((a ≡ b) × (run ≡ run_of [] Done)) ⊎ ((key : Key) × IsLeastDifference a b key × (run ≡ told_run teller (Differs key)))

-- the runs that may come of what is due: of a refusal its line, of a plan what it puts out
abbrev pub MayCome : Teller → Result Plan Outcome → Run → Type 0
MayCome teller (Err refusal) run = run ≡ told_run teller refusal
MayCome teller (Ok (Applies plan)) run = IsApplied plan run
MayCome teller (Ok (Runs plan)) run = MayBeRun teller plan run
MayCome teller (Ok (Puts plan)) run = IsPut plan run
MayCome teller (Ok (Restores plan)) run = MayBeRestored teller plan run
MayCome teller (Ok (Compares a b)) run = IsCompared teller a b run

-- What comes first of a run: it takes the input that it reads, or nothing where it reads none.
abbrev pub Begins : Option Bytes → List Output → Type 0
Begins None first = first ≡ []
Begins (Some input) first = (text : Bytes) × IsTaken input text × (first ≡ Takes text ∷ [])

-- A run that may come: it takes the input that it reads, and then comes what may come of what is due.
pub record MayRun (reads : Option Bytes) (teller : Teller) (due : Result Plan Outcome) (run : Run) : Type 0 where
  pub first : List Output
  pub begins : Begins reads first
  pub later : Run
  pub may : MayCome teller due later
  pub is : run ≡ run_of (first ++ later.outputs) later.answer

-- a run that may come has ended: all its outputs were put out, in order, and its answer was given
pub record HasEnded (reads : Option Bytes) (teller : Teller) (due : Result Plan Outcome) (answer : Outcome) (before after : World) : Type 0 where
  pub run : Run
  pub may : MayRun reads teller due run
  pub answers : answer ≡ run.answer
  pub put : after ≡ all_performed run.outputs before

-- the outputs of a run that may come, or only what comes first of one
abbrev pub AreOfRun : Option Bytes → Teller → Result Plan Outcome → List Output → Type 0
AreOfRun reads teller due outputs = Begins reads outputs ⊎ ((run : Run) × MayRun reads teller due run × (outputs ≡ run.outputs))

-- such outputs were cut short
pub record HasCut (reads : Option Bytes) (teller : Teller) (due : Result Plan Outcome) (before after : World) : Type 0 where
  pub outputs : List Output
  pub of_run : AreOfRun reads teller due outputs
  pub cut : CutShort outputs before after

-- by these answers the work may have ended on its way
abbrev pub IsEarly : Outcome → Type 0
IsEarly ReadFault = Unit {0}
IsEarly WriteFault = Unit {0}
IsEarly Memory = Unit {0}
IsEarly answer = ⊥

-- a step that passed or refused has taken what the run reads; one that ended on its way may have taken a part
abbrev pub StepTakes : {X : Type 0} → Result X Outcome → Option Bytes → Option Bytes → Option Bytes → Type 0
StepTakes (Ok x) reads before after = HasTaken reads before after
StepTakes (Err outcome) reads before after = (IsEarly outcome → ⊥) → HasTaken reads before after

-- The line that follows is the answer's own. It is that of ReadFault or Memory where it couldn't be told, so that the
-- answer became WriteFault.
abbrev pub IsOwnLine : Outcome → Outcome → ℕ → ℕ → Type 0
IsOwnLine said answer lines after = (said ≡ answer) ⊎ ((answer ≡ WriteFault) × IsEarly said × HasRisen lines after)

-- A run that may come was cut short: some of its outputs are whole, the next one is cut, and a first part of a line
-- follows. The two numbers count the writes to standard error that failed, before and after.
pub record HasEndedEarly (reads : Option Bytes) (teller : Teller) (due : Result Plan Outcome) (answer : Outcome) (before after : World) (lines lines_after : ℕ) : Type 0 where
  pub between : World
  pub ended : HasCut reads teller due before between
  pub said : Outcome
  pub own : IsOwnLine said answer lines lines_after
  pub line : IsPart (Tells (outcome_line teller said)) between after

-- standard input, where the words ask for what reads it
abbrev pub read_by : List Bytes → Bytes → Option Bytes
read_by words input = where_read (reads_input words) input

-- what is due for the words, the moment, the files and standard input, and who tells it
abbrev pub Ended : List Bytes → Moment → Tree → Bytes → Outcome → World → World → Type 0
Ended words moment tree input answer before after = HasEnded (read_by words input) (teller_of words) (due words moment tree input) answer before after

abbrev pub EndedEarly : List Bytes → Moment → Tree → Bytes → Outcome → World → World → ℕ → ℕ → Type 0
EndedEarly words moment tree input answer before after lines lines_after = HasEndedEarly (read_by words input) (teller_of words) (due words moment tree input) answer before after lines lines_after

-- the answer of a call: a run that may come has ended, or it was cut short
abbrev pub Answered : Outcome → List Bytes → Moment → Tree → Bytes → World → World → ℕ → ℕ → Type 0
Answered ReadFault words moment tree input before after lines lines_after = EndedEarly words moment tree input ReadFault before after lines lines_after
Answered WriteFault words moment tree input before after lines lines_after = EndedEarly words moment tree input WriteFault before after lines lines_after
Answered Memory words moment tree input before after lines lines_after = EndedEarly words moment tree input Memory before after lines lines_after
Answered answer words moment tree input before after lines lines_after = Ended words moment tree input answer before after
