-- What was told of an entry that took a step.
use Rattle.std.specs.Prelude.{◌≡◌, ℕ, List, ◌++◌}
use Rattle.cat_model.specs.declared.cause.Cause.{Cause}
use Rattle.cat_model.specs.Values.{Named}
use Rattle.restore_plan.specs.declared.status.Note.{Note}
use Rattle.restore_plan.specs.Serial.{Under_way}
use Rattle.restore_core.specs.declared.phase.Phase.{Phase}
use Rattle.restore_core.specs.declared.phase.Phase.TheVariants.{Running}
use Rattle.restore_core.specs.Machine.{phase_behind}
use Rattle.serial_restore.specs.Ways.{listed}
use Rattle.restore_board.specs.Notes.{noted_at}

-- how many of its statements an entry that runs has behind it; none of one that doesn't run
abbrev pub run_in : Phase → ℕ
run_in (Running worker run) = run
run_in _ = 0

-- The catalogue, how many of its statements have run, its notes, which are those of this place, and its refusal. `had` are
-- the notes that it had, and `old` and `new` those of all entries.
pub record HasRun (w : Under_way) (named : Named) (run : ℕ) (entry : ℕ) (had : List Note) (old new : List (List Note)) (refused : List Cause) : Type 0 where
  pub catalogue : named ≡ w.catalogue
  pub ran : run ≡ w.run
  pub more : List Note
  pub put : new ≡ noted_at old entry more
  pub noted : had ++ more ≡ w.notes
  pub refusal : refused ≡ listed w.refused

-- The same, with where the entry is then: it runs on with its worker, or has ended.
pub record HasGone (w : Under_way) (worker many : ℕ) (named : Named) (phase : Phase) (entry : ℕ) (had : List Note) (old new : List (List Note)) : Type 0 where
  pub catalogue : named ≡ w.catalogue
  pub behind : phase ≡ phase_behind worker many w w.refused
  pub more : List Note
  pub put : new ≡ noted_at old entry more
  pub noted : had ++ more ≡ w.notes
