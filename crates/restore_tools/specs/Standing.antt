-- What stands once a restore has ended, and where it ended early.
use Rattle.std.specs.Prelude.{◌≡◌, ℕ, ◌≤◌, List, Option, Some, option_map, Result, Ok, Err, ◌⊎◌}
use Rattle.cat_model.specs.declared.words.What.TheVariants.{Unbuilt}
use Rattle.dump_ports.specs.Faults.{HasRisen}
use Rattle.dump_ports.specs.Tree.{Tree}
use Rattle.exports.specs.Exports.{Exported, export_of}
use Rattle.restore_folders.specs.Openings.{export_named}
use Rattle.restore_folders.specs.Written.{LeavesEnding, files_written, tree_after}
use Rattle.saved_folders.specs.Exports.{WithTexts}
use Rattle.saved_folders.specs.Files.{PartSaved}
use Rattle.restore_folders.specs.Writing.{NoOidIsLeft, IsPastLimit}
use Rattle.tool_words.specs.declared.outcome.Outcome.{Outcome}
use Rattle.tool_words.specs.declared.outcome.Outcome.TheVariants.{Done, ReadFault, WriteFault, OutOfProfile, TooLarge, WithErrors, RestoreStopped}
use Rattle.tool_words.specs.Answers.{IsDue}
use Rattle.tool_words.specs.Lines.{Appends, AppendsPart}
use Rattle.restore_tools.specs.Due.{Restoring, ending, report_of, answer_due}

-- ---- a restore that has run

-- an answer of a restore that has run
abbrev pub IsAnswer : Outcome → Type 0
IsAnswer Done = Unit {0}
IsAnswer (WithErrors errors) = Unit {0}
IsAnswer (RestoreStopped stop) = Unit {0}
IsAnswer outcome = ⊥

-- The folder was written, once, and its files stand for what the restore leaves; nothing was written where it stopped and
-- was undone.
pub record Restored (plan : Restoring) (before after : Option Tree) : Type 0 where
  pub texts : Option WithTexts
  pub leaves : LeavesEnding plan.work.opening.cat plan.how (ending plan) texts
  pub saved : after ≡ option_map (tree_after plan.folder texts) before

-- and then its report was told
pub record IsCarriedOut (plan : Restoring) (before after : Option Tree) (told_before told_after : Option (List ℕ)) : Type 0 where
  pub restored : Restored plan before after
  pub told : Appends (report_of plan) told_before told_after

-- the restore that was due has run, with its answer
pub record WasRestored (due : Result Restoring Outcome) (answer : Outcome) (before after : Option Tree) (told_before told_after : Option (List ℕ)) : Type 0 where
  pub plan : Restoring
  pub is_due : due ≡ Ok plan
  pub answers : answer ≡ answer_due plan
  pub carried : IsCarriedOut plan before after told_before told_after

-- the folder is read as an export that stands for what the restore leaves
pub record ReadsBack (plan : Restoring) (after : Option Tree) : Type 0 where
  pub tree : Tree
  pub is : after ≡ Some tree
  pub export : Exported
  pub reads : export_of plan.folder tree ≡ Ok export
  pub same : export_named export ≡ (ending plan).left

-- ---- another answer

-- a restore is to run, and a folder of what it leaves is past a limit
abbrev pub IsTooLarge : Outcome → Result Restoring Outcome → Type 0
IsTooLarge refusal due = (plan : Restoring) × (due ≡ Ok plan) × IsPastLimit plan.work.opening.cat (ending plan).left refusal

-- a restore is to run, and no oid is left for what it makes of its opening
abbrev pub LacksOids : Result Restoring Outcome → Type 0
LacksOids due = (plan : Restoring) × (due ≡ Ok plan) × NoOidIsLeft plan.work.opening.cat

-- A restore is to run, and what it leaves isn't written: its files would be over a limit of reading, or no oid is left for what
-- is new.
abbrev pub IsUnmade : Outcome → Result Restoring Outcome → Type 0
IsUnmade (TooLarge limit most) due = IsTooLarge (TooLarge limit most) due
IsUnmade (OutOfProfile what) due = (what ≡ Unbuilt) × LacksOids due
IsUnmade outcome due = ⊥

-- the refusal that is due, or that what the restore leaves isn't written
abbrev pub IsAnswerDue : Outcome → Result Restoring Outcome → Type 0
IsAnswerDue outcome due = IsDue outcome due ⊎ IsUnmade outcome due

-- an answer that no failed read gives
abbrev pub IsUnread : Outcome → Type 0
IsUnread ReadFault = ⊥
IsUnread outcome = Unit {0}

-- ---- a restore that ended early

-- the writing of the folder ended on its way, and nothing was told
pub record CutInFiles (plan : Restoring) (before after : Option Tree) (told_before told_after : Option (List ℕ)) : Type 0 where
  pub texts : Option WithTexts
  pub leaves : LeavesEnding plan.work.opening.cat plan.how (ending plan) texts
  pub saved : PartSaved (files_written plan.folder texts) before after
  pub silent : told_after ≡ told_before

-- the folder was written, and the telling of the report ended on its way
pub record CutInReport (plan : Restoring) (before after : Option Tree) (told_before told_after : Option (List ℕ)) : Type 0 where
  pub restored : Restored plan before after
  pub told : AppendsPart (report_of plan) told_before told_after

-- nothing was put out
pub record IsUntouched (before after : Option Tree) (told_before told_after : Option (List ℕ)) : Type 0 where
  pub kept : after ≡ before
  pub silent : told_after ≡ told_before

abbrev pub IsCutOff : Restoring → Option Tree → Option Tree → Option (List ℕ) → Option (List ℕ) → Type 0
IsCutOff plan before after told_before told_after = IsUntouched before after told_before told_after ⊎ CutInFiles plan before after told_before told_after ⊎ CutInReport plan before after told_before told_after

-- how far the restore that is due came: nothing was put out, or it was cut off
abbrev pub HasCut : Result Restoring Outcome → Option Tree → Option Tree → Option (List ℕ) → Option (List ℕ) → Type 0
HasCut due before after told_before told_after =
    IsUntouched before after told_before told_after ⊎ ((plan : Restoring) × (due ≡ Ok plan) × IsCutOff plan before after told_before told_after)

-- ---- counts of faults

-- The count of reads rose where the answer is ReadFault, and stayed where it isn't.
abbrev pub CountsReads : {X : Type 0} → Result X Outcome → ℕ → ℕ → Type 0
CountsReads (Err ReadFault) before after = (before ≤ after) × HasRisen before after
CountsReads _ before after = after ≡ before

-- A count of writes, of files or to standard error, rose where the answer is WriteFault, and both stayed where it isn't.
abbrev pub CountsWrites : {X : Type 0} → Result X Outcome → ℕ → ℕ → ℕ → ℕ → Type 0
CountsWrites (Err WriteFault) a b c d = (a ≤ b) × (c ≤ d) × (HasRisen a b ⊎ HasRisen c d)
CountsWrites _ a b c d = (b ≡ a) × (d ≡ c)
