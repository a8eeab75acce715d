-- What stands once what a clone wrote is restored, and where that ended early.
use Rattle.std.specs.Prelude.{◌≡◌, Option, option_map, Result, Ok, ◌⊎◌}
use Rattle.cat_model.specs.Values.{Bytes}
use Rattle.dump_ports.specs.Tree.{Tree}
use Rattle.saved_folders.specs.Exports.{WithTexts}
use Rattle.saved_folders.specs.Files.{PartSaved}
use Rattle.saved_folders.specs.Folders.{files_of, folder_saved}
use Rattle.script_runs.specs.Writing.{IsUnwritten, StandFor}
use Rattle.tool_words.specs.declared.outcome.Outcome.{Outcome}
use Rattle.tool_words.specs.declared.outcome.Outcome.TheVariants.{Done, ReadFault, WriteFault, WithErrors}
use Rattle.tool_words.specs.Answers.{IsDue, IsLate}
use Rattle.tool_words.specs.Lines.{Appends, AppendsPart}
use Rattle.clone_restores.specs.declared.restored.Restored.{Restored}
use Rattle.clone_restores.specs.Due.{Restoration, answer_of}

-- an answer of a restore that was carried out
abbrev pub IsAnswer : Outcome → Type 0
IsAnswer Done = Unit {0}
IsAnswer (WithErrors errors) = Unit {0}
IsAnswer outcome = ⊥

-- what the code holds of a restore before it is written
pub record IsMade (plan : Restoration) (restored : Restored) : Type 0 where
  pub stand : StandFor plan.opening.cat plan.left restored.texts
  pub told : restored.report.items ≡ plan.told
  pub errors : restored.errors ≡ plan.errors

-- the folder was written, once, and its files stand for what the restore leaves
pub record IsWritten (plan : Restoration) (before after : Option Tree) : Type 0 where
  pub texts : WithTexts
  pub stand : StandFor plan.opening.cat plan.left texts
  pub saved : after ≡ option_map (folder_saved plan.folder texts.texts) before

-- and then what was refused was told
pub record IsCarriedOut (plan : Restoration) (before after : Option Tree) (told_before told_after : Option Bytes) : Type 0 where
  pub written : IsWritten plan before after
  pub told : Appends plan.told told_before told_after

-- the restore that was due was carried out, with its answer
pub record WasRestored (due : Result Restoration Outcome) (answer : Outcome) (before after : Option Tree) (told_before told_after : Option Bytes) : Type 0 where
  pub plan : Restoration
  pub is_due : due ≡ Ok plan
  pub answers : answer ≡ answer_of plan
  pub carried : IsCarriedOut plan before after told_before told_after

-- ---- another answer

-- A restore is to be carried out, and what it leaves isn't written: its files would be over a limit of reading, or no oid is
-- left for what is new; or memory ran out.
pub record IsUnmade (outcome : Outcome) (due : Result Restoration Outcome) : Type 0 where
  pub plan : Restoration
  pub is_due : due ≡ Ok plan
  pub unwritten : IsUnwritten plan.opening.cat plan.left outcome

-- an answer that no failed call gives
abbrev pub IsUnfailed : Outcome → Type 0
IsUnfailed ReadFault = ⊥
IsUnfailed WriteFault = ⊥
IsUnfailed outcome = Unit {0}

-- Nothing was put out: the answer is the refusal that is due, or that what the restore leaves isn't written; or a call failed, or
-- memory ran out.
pub record IsNotBegun (outcome : Outcome) (due : Result Restoration Outcome) (before after : Option Tree) (told_before told_after : Option Bytes) : Type 0 where
  pub answers : IsDue outcome due ⊎ IsUnmade outcome due
  pub kept : after ≡ before
  pub silent : told_after ≡ told_before

-- the writing of the folder ended on its way, and nothing was told
pub record CutInFiles (plan : Restoration) (before after : Option Tree) (told_before told_after : Option Bytes) : Type 0 where
  pub texts : WithTexts
  pub stand : StandFor plan.opening.cat plan.left texts
  pub saved : PartSaved (files_of plan.folder texts.texts) before after
  pub silent : told_after ≡ told_before

-- the folder was written, and the telling of what was refused ended on its way
pub record CutInReport (plan : Restoration) (before after : Option Tree) (told_before told_after : Option Bytes) : Type 0 where
  pub written : IsWritten plan before after
  pub told : AppendsPart plan.told told_before told_after

abbrev pub IsCutOff : Restoration → Option Tree → Option Tree → Option Bytes → Option Bytes → Type 0
IsCutOff plan before after told_before told_after = CutInFiles plan before after told_before told_after ⊎ CutInReport plan before after told_before told_after

-- the restore that is due ended on its way, by a failed write or want of memory
pub record IsBroken (outcome : Outcome) (due : Result Restoration Outcome) (before after : Option Tree) (told_before told_after : Option Bytes) : Type 0 where
  pub late : IsLate outcome
  pub plan : Restoration
  pub is_due : due ≡ Ok plan
  pub cut : IsCutOff plan before after told_before told_after

abbrev pub IsNotRestored : Outcome → Result Restoration Outcome → Option Tree → Option Tree → Option Bytes → Option Bytes → Type 0
IsNotRestored outcome due before after told_before told_after = IsNotBegun outcome due before after told_before told_after ⊎ IsBroken outcome due before after told_before told_after
