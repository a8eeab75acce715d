-- A restore into a folder: what it works on once all is read, or the first refusal of the steps. What is taken of the archive
-- was read before; the folder is read as an opening, and then each entry as statements.
use Rattle.std.specs.Prelude.{◌≡◌, ℕ, ◌==◌, Bool, true, false, List, Option, Some, None, Result, Ok, Err, if◌then◌else◌}
use Rattle.dump_ports.specs.Tree.{Tree}
use Rattle.toc_entry.specs.declared.entry.Entry.{Entry}
use Rattle.cat_model.specs.declared.words.What.TheVariants.{Unbuilt}
use Rattle.cat_model.specs.Values.{Bytes}
use Rattle.cat_names.specs.Naming.{boot as boot_role}
use Rattle.exports.specs.Exports.{Exported}
use Rattle.openings.specs.Openings.{export_named, opened_folder}
use Rattle.restores_sound.specs.Fit.{AreFitEntries}
use Rattle.restore_plan.specs.declared.entry.Entry as planned
use Rattle.restore_steps.specs.declared.fault.PlanFault.{PlanFault}
use Rattle.restore_steps.specs.declared.fault.PlanFault.TheVariants as plan
use Rattle.restore_input.specs.Inputs.{Input}
use Rattle.restore_runs.specs.Wanted.{wanted_due}
use Rattle.restore_runs.specs.Endings.{Ending, ending}
use Rattle.restore_runs.specs.Reports.{Stopping}
use Rattle.tool_words.specs.declared.outcome.Outcome.{Outcome}
use Rattle.tool_words.specs.declared.outcome.Outcome.TheVariants.{Done, BadDefn, OutOfProfile, RestoreStopped, WithErrors}
use Rattle.tool_words.specs.Answers.{◌>>=◌}
use Rattle.restore_folders.specs.declared.refusal.OnRefusal.{OnRefusal}
use Rattle.restore_folders.specs.declared.refusal.OnRefusal.TheVariants.{GoOn, Stop, Undo}

-- entries to restore, as an archive has them and as statements; the opening on which they are carried out, and the role that
-- owns what they create
pub record Work : Type 0 where
  pub boot : Bytes
  pub opening : Exported
  pub entries : List Entry
  pub wanted : List planned.Entry

-- the role is the opening's, and the statements are such as are read
pub record IsReady (work : Work) : Type 0 where
  pub role : boot_role work.opening.cat ≡ Some work.boot
  pub fit : AreFitEntries work.wanted

-- ---- the steps

-- an entry that can't be restored
abbrev pub plan_outcome : PlanFault → Outcome
plan_outcome (plan.BadDefn entry fault) = BadDefn entry fault
plan_outcome (plan.OutOfProfile entry what) = OutOfProfile what

abbrev pub in_entries : {A : Type 0} → Result A PlanFault → Result A Outcome
in_entries (Ok x) = Ok x
in_entries (Err fault) = Err (plan_outcome fault)

abbrev pub with_boot : Bool → Input → Exported → Bytes → Result Work Outcome
with_boot owners input opening boot =
    in_entries (wanted_due owners input.entries input.texts) >>= λ wanted. Ok (record { boot = boot; opening = opening; entries = input.entries; wanted = wanted })

-- the role is there in each opening
abbrev pub with_role : Bool → Input → Exported → Option Bytes → Result Work Outcome
with_role owners input opening None = Err (OutOfProfile Unbuilt)
with_role owners input opening (Some boot) = with_boot owners input opening boot

-- What is due of a restore of an archive's entries into a folder, with owners or without: what it works on, or the first
-- refusal.
unfoldable pub work_due : Bool → Bytes → Input → Tree → Result Work Outcome
work_due owners folder input tree = opened_folder folder tree >>= λ opening. with_role owners input opening (boot_role opening.cat)

-- ---- how it ends

-- a restore ends at the first refusal
abbrev pub stops : OnRefusal → Bool
stops GoOn = false
stops Stop = true
stops Undo = true

-- what a restore leaves, what it tells, how many errors it passed over, and where it stopped
abbrev pub ending_of : OnRefusal → Bytes → Work → Ending
ending_of how teller work = ending (stops how) teller work.boot work.entries work.wanted (export_named work.opening)

-- how a restore that has ended is answered: where it stopped, else how many errors it passed over
abbrev pub answer_by : ℕ → Option Stopping → Outcome
answer_by errors (Some stop) = RestoreStopped stop
answer_by errors None = if errors == 0 then Done else WithErrors errors

abbrev pub answer_of : Ending → Outcome
answer_of ending = answer_by ending.errors ending.stopped
