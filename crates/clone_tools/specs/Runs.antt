-- Which runs of a call may come: what it takes and puts out, in order, and what it answers. Those of one tool are as
-- `dump_tools` has them; both halves of a clone are told by one name.
use Rattle.std.specs.Prelude.{◌≡◌, ◌⊎◌, ℕ, List, [], ◌∷◌, ◌++◌, map, Option, Some, None, Result, Ok, Err}
use Rattle.cat_model.specs.Values.{Bytes}
use Rattle.clone_restores.specs.Due.{Restoration, answer_of}
use Rattle.clone_tools.specs.Due.{Work, Does, Clones, call_due}
use Rattle.dump_ports.specs.Tree.{Tree}
use Rattle.dump_ports.specs.declared.moment.Moment.{Moment}
use Rattle.dump_plain.specs.Dumps.{BadRow}
use Rattle.dump_plans.specs.Outcomes.{bad_row_outcome}
use Rattle.dump_outputs.specs.Forms.{Putting}
use Rattle.dump_outputs.specs.Pieces.{Piece, IsFront}
use Rattle.dump_tools.specs.Outputs.{World, Output, Tells, all_performed, IsPart, CutShort, stores, puts}
use Rattle.dump_tools.specs.Runs.{Run, run_of, told_run, IsUnmadeAnswer, MayCome, Begins, IsEarly, IsOwnLine, read_by}
use Rattle.exports.specs.Exports.{Exported, export_of}
use Rattle.openings.specs.Openings.{export_named}
use Rattle.saved_folders.specs.Exports.{WithTexts}
use Rattle.saved_folders.specs.Folders.{files_of}
use Rattle.clone_restores.specs.Writing.{StandFor}
use Rattle.tool_words.specs.declared.outcome.Outcome.{Outcome}
use Rattle.tool_words.specs.declared.words.Teller.{Teller}
use Rattle.tool_words.specs.Messages.{outcome_line}
use Rattle.tool_words.specs.Words.{teller_of}

-- ---- the second half of a clone

-- What was written is restored: the files of the folder that stands for what the restore leaves are stored one after another, the
-- marker last, and then what was refused is told.
pub record IsRestored (plan : Restoration) (run : Run) : Type 0 where
  pub texts : WithTexts
  pub stand : StandFor plan.opening.cat plan.left texts
  pub is : run ≡ run_of (map stores (files_of plan.folder texts.texts) ++ Tells plan.told ∷ []) (answer_of plan)

-- It is restored, or what the restore leaves isn't written.
abbrev pub MayBeRestored : Teller → Restoration → Run → Type 0
MayBeRestored teller plan run = IsRestored plan run ⊎ ((answer : Outcome) × IsUnmadeAnswer plan.opening.cat plan.left answer × (run ≡ told_run teller answer))

-- of a refusal its line comes
abbrev pub MayRestore : Teller → Result Restoration Outcome → Run → Type 0
MayRestore teller (Err refusal) run = run ≡ told_run teller refusal
MayRestore teller (Ok plan) run = MayBeRestored teller plan run

-- ---- both halves

-- The dump is written, whole, and then comes what may come of the second half.
pub record GoesOn (teller : Teller) (pieces : List Piece) (second : Result Restoration Outcome) (run : Run) : Type 0 where
  pub later : Run
  pub may : MayRestore teller second later
  pub is : run ≡ run_of (map puts pieces ++ later.outputs) later.answer

-- A row of the dump fails: some first part of what stands before it is written, and its line is told.
pub record Breaks (teller : Teller) (pieces : List Piece) (bad : BadRow) (run : Run) : Type 0 where
  pub front : List Piece
  pub is_front : IsFront pieces front
  pub is : run ≡ run_of (map puts front ++ Tells (outcome_line teller (bad_row_outcome bad)) ∷ []) (bad_row_outcome bad)

abbrev pub goes_by : Teller → List Piece → Option BadRow → Result Restoration Outcome → Run → Type 0
goes_by teller pieces None second run = GoesOn teller pieces second run
goes_by teller pieces (Some bad) second run = Breaks teller pieces bad run

-- ---- any call

-- the runs that may come of what is due: of a refusal its line, of a tool's work what that tool puts out
abbrev pub MayWork : Teller → Result Work Outcome → Run → Type 0
MayWork teller (Err refusal) run = run ≡ told_run teller refusal
MayWork teller (Ok (Does plan)) run = MayCome teller (Ok plan) run
MayWork teller (Ok (Clones first second)) run = goes_by teller first.pieces first.bad second run

-- A run that may come: it takes the input that it reads, and then comes what may come of what is due.
pub record MayRun (reads : Option Bytes) (teller : Teller) (due : Result Work Outcome) (run : Run) : Type 0 where
  pub first : List Output
  pub begins : Begins reads first
  pub later : Run
  pub may : MayWork teller due later
  pub is : run ≡ run_of (first ++ later.outputs) later.answer

-- a run that may come has ended: all its outputs were put out, in order, and its answer was given
pub record HasEnded (reads : Option Bytes) (teller : Teller) (due : Result Work Outcome) (answer : Outcome) (before after : World) : Type 0 where
  pub run : Run
  pub may : MayRun reads teller due run
  pub answers : answer ≡ run.answer
  pub put : after ≡ all_performed run.outputs before

-- the dump of a clone, whole
pub record IsDump (due : Result Work Outcome) (outputs : List Output) : Type 0 where
  pub first : Putting
  pub second : Result Restoration Outcome
  pub is_due : due ≡ Ok (Clones first second)
  pub whole : first.bad ≡ None
  pub is : outputs ≡ map puts first.pieces

-- the outputs of a run that may come, or only what comes first of one, or only the dump of a clone
abbrev pub AreOfRun : Option Bytes → Teller → Result Work Outcome → List Output → Type 0
AreOfRun reads teller due outputs = Begins reads outputs ⊎ IsDump due outputs ⊎ ((run : Run) × MayRun reads teller due run × (outputs ≡ run.outputs))

-- such outputs were cut short
pub record HasCut (reads : Option Bytes) (teller : Teller) (due : Result Work Outcome) (before after : World) : Type 0 where
  pub outputs : List Output
  pub of_run : AreOfRun reads teller due outputs
  pub cut : CutShort outputs before after

-- A run that may come was cut short: some of its outputs are whole, the next one is cut, and a first part of a line follows.
-- The two numbers count the writes to standard error that failed, before and after.
pub record HasEndedEarly (reads : Option Bytes) (teller : Teller) (due : Result Work Outcome) (answer : Outcome) (before after : World) (lines lines_after : ℕ) : Type 0 where
  pub between : World
  pub ended : HasCut reads teller due before between
  pub said : Outcome
  pub own : IsOwnLine said answer lines lines_after
  pub line : IsPart (Tells (outcome_line teller said)) between after

-- a run that may come was cut short, with ReadFault, WriteFault or Memory, or with any other answer it has ended
abbrev pub HasAnswered : Option Bytes → Teller → Result Work Outcome → Outcome → World → World → ℕ → ℕ → Type 0
HasAnswered reads teller due answer before after lines lines_after =
    (IsEarly answer × HasEndedEarly reads teller due answer before after lines lines_after) ⊎ ((IsEarly answer → ⊥) × HasEnded reads teller due answer before after)

-- what is due for the words, the moment, the files and standard input, and who tells it
abbrev pub Ended : List Bytes → Moment → Tree → Bytes → Outcome → World → World → Type 0
Ended words moment tree input answer before after = HasEnded (read_by words input) (teller_of words) (call_due words moment tree input) answer before after

-- the answer of a call
abbrev pub Answered : Outcome → List Bytes → Moment → Tree → Bytes → World → World → ℕ → ℕ → Type 0
Answered answer words moment tree input before after lines lines_after = HasAnswered (read_by words input) (teller_of words) (call_due words moment tree input) answer before after lines lines_after

-- ---- what is left

-- the folder is read as an export that stands for what the restore leaves
pub record ReadsBack (plan : Restoration) (after : Option Tree) : Type 0 where
  pub tree : Tree
  pub is : after ≡ Some tree
  pub export : Exported
  pub reads : export_of plan.folder tree ≡ Ok export
  pub same : export_named export ≡ plan.left
