-- What is due of pg_restore where it restores into a folder: the restore that is to run, or the first refusal of the steps.
-- The archive is read first, then the list file, and of a directory the files of the entries with rows; then the folder as
-- an opening, and then the entries as statements. Nothing is restored before all is read.
use Rattle.std.specs.Prelude.{ℕ, not, Bool, List, Option, Some, None, Result, Ok, Err, codes, if◌then◌else◌}
use Rattle.cat_model.specs.Values.{Bytes}
use Rattle.command_line.specs.declared.command.RestoreWords.{RestoreWords}
use Rattle.dump_ports.specs.Tree.{Tree}
use Rattle.restore_folders.specs.declared.refusal.OnRefusal.{OnRefusal}
use Rattle.restore_folders.specs.declared.refusal.OnRefusal.TheVariants.{GoOn, Stop, Undo}
use Rattle.restore_folders.specs.Works.{Work, work_due, ending_of, answer_of}
use Rattle.restore_input.specs.Inputs.{Input, input_due, custom_input_due}
use Rattle.restore_outcomes.specs.Told.{told}
use Rattle.restore_folders.specs.Endings.{Ending}
use Rattle.restore_words.specs.Words.{options_of, format_of}
use Rattle.tool_words.specs.declared.outcome.Outcome.{Outcome}
use Rattle.tool_words.specs.Answers.{◌>>=◌}

-- ---- the words

-- `-1` undoes a restore at its first refusal, and `-e` stops it there
abbrev pub refusal_of : RestoreWords → OnRefusal
refusal_of words = if words.single_transaction then Undo else (if words.exit_on_error then Stop else GoOn)

-- the name with which each line begins
abbrev pub teller : Bytes
teller = codes "pg_restore"

-- ---- what is taken of the archive

-- of the one at a path: a folder with a file `toc.dat`, or a file
unfoldable pub path_taken : RestoreWords → Bytes → Tree → Result Input Outcome
path_taken words path tree = told (input_due (options_of words) words.use_list (format_of words.format) tree path)

-- of the custom archive that these bytes are
unfoldable pub bytes_taken : RestoreWords → Bytes → Tree → Result Input Outcome
bytes_taken words bytes tree = told (custom_input_due (options_of words) words.use_list tree bytes)

-- of the one at the path that is named; of the one that standard input is, where none is named
unfoldable pub taken_of : Option Bytes → RestoreWords → Bytes → Tree → Result Input Outcome
taken_of (Some path) words input tree = path_taken words path tree
taken_of None words input tree = bytes_taken words input tree

-- ---- the restore

-- a restore that is to run, on what was read, into this folder
pub record Restoring : Type 0 where
  pub folder : Bytes
  pub how : OnRefusal
  pub work : Work

abbrev pub restoring : Bytes → OnRefusal → Work → Restoring
restoring folder how work = record { folder = folder; how = how; work = work }

-- what it works on
unfoldable pub work_of : Bytes → Option Bytes → RestoreWords → Bytes → Tree → Result Work Outcome
work_of folder archive words input tree = taken_of archive words input tree >>= λ taken. work_due (not words.no_owner) folder taken tree

-- what is due for the folder, the path of the archive, the words, standard input and the files
unfoldable pub restore_due : Bytes → Option Bytes → RestoreWords → Bytes → Tree → Result Restoring Outcome
restore_due folder archive words input tree = work_of folder archive words input tree >>= λ work. Ok (restoring folder (refusal_of words) work)

-- ---- how it ends

-- what its entries make of the opening one after another: all of them, or up to the first that is refused
abbrev pub ending : Restoring → Ending
ending plan = ending_of plan.how teller plan.work

-- what is told of it
abbrev pub report_of : Restoring → List ℕ
report_of plan = (ending plan).told

-- its answer: where it stopped, else how many errors it passed over
abbrev pub answer_due : Restoring → Outcome
answer_due plan = answer_of (ending plan)
