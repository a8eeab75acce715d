-- A restore of fit statements leaves a catalogue in order.
use Rattle.std.proofs.Common.{◌≡◌, ℕ, List, [], ◌∷◌, ◌++◌, Option, Some, None, Result, Ok, Err, refl}
use Rattle.cat_rows.specs.declared.catalogue.Catalogue.{Catalogue}
use Rattle.cat_model.specs.declared.cause.Cause.{Cause}
use Rattle.cat_model.specs.declared.object.QName.{QName}
use Rattle.cat_model.specs.Effects.{effect}
use Rattle.cat_model.specs.Trees.{run}
use Rattle.cat_model.specs.Values.{Bytes, Named}
use Rattle.cat_names.specs.DataSets.{TextsByOid}
use Rattle.restore_plan.specs.declared.entry.Entry.{Entry}
use Rattle.restore_plan.specs.declared.planned.Planned.{Planned}
use Rattle.restore_plan.specs.declared.status.Note.{Note}
use Rattle.restore_plan.specs.declared.step.Step.{Step}
use Rattle.restore_plan.specs.Order.{foreign_keys_in, plan_behind}
use Rattle.restore_plan.specs.Serial.{Under_way, started, until_refusal, after_steps, Ended, first_blocked, entry_left, serial_behind, Stopped, steps_until, serial_until}
use Rattle.restores_sound.specs.Fit.{AreFitSteps, AreFitEntries, IsFitPlan}
use Rattle.opening_sound.specs.Left.{IsLeft}
use Rattle.opening_sound.proofs.Leaving.{stepped, carried}

-- entries in their places have the statements that they had
pub planned : (parents : List (QName × QName)) (earlier entries : List Entry) → AreFitEntries entries → IsFitPlan (plan_behind parents earlier entries)
planned parents earlier [] fit = tt
planned parents earlier (e ∷ es) fit = (fit.0, planned (parents ++ foreign_keys_in e.steps) (earlier ++ e ∷ []) es fit.1)

-- behind a statement of an entry: the others, or none where it was refused
abbrev by_run : (Named → Stopped) → ℕ → Named → Result Named Cause → Stopped
by_run more id named r = elim r [
  | Ok after ↦ more after
  | Err cause ↦ record { catalogue = named; at = Some (record { dump_id = id; cause = cause }) }
]

abbrev by_stop : (Named → Stopped) → Stopped → Option Note → Stopped
by_stop more s r = elim r [ None ↦ more s.catalogue | Some note ↦ s ]

module _ (opening : Catalogue) (texts : TextsByOid) (role : Bytes) where
  -- ---- one that goes on behind refusals

  after : (id : ℕ) (ss : List Step) (w : Under_way) → IsLeft opening texts role w.catalogue → AreFitSteps ss → IsLeft opening texts role (after_steps role id ss w).catalogue
  after id [] w is fit = is
  after id (s ∷ ss) w is fit = after id ss (until_refusal role id w w.refused s) (by w.refused) fit.1
    where
      by : (o : Option Cause) → IsLeft opening texts role (until_refusal role id w o s).catalogue
      by None = stepped opening texts role s.statement w.catalogue is fit.0
      by (Some cause) = is

  entry : (p : Planned) (named : Named) (blocked : Option ℕ) → IsLeft opening texts role named → AreFitSteps p.steps → IsLeft opening texts role (entry_left role p named blocked).catalogue
  entry p named (Some by) is fit = is
  entry p named None is fit = after p.id p.steps (started named) is fit

  behind : (ended : Ended) (named : Named) (ps : List Planned) → IsLeft opening texts role named → IsFitPlan ps → IsLeft opening texts role (serial_behind role ended named ps).catalogue
  behind ended named [] is fit = is
  behind ended named (p ∷ ps) is fit =
      let left = entry_left role p named (first_blocked ended p.deps) in
      behind (ended ++ (p.id, left.status) ∷ []) left.catalogue ps (entry p named (first_blocked ended p.deps) is fit.0) fit.1

  pub gone_on : (planned : List Planned) (named : Named) → IsLeft opening texts role named → IsFitPlan planned → IsLeft opening texts role (serial_behind role [] named planned).catalogue
  gone_on planned named is fit = behind [] named planned is fit

  -- ---- one that stops at the first

  steps : (id : ℕ) (ss : List Step) (named : Named) → IsLeft opening texts role named → AreFitSteps ss → IsLeft opening texts role (steps_until role id ss named).catalogue
  steps id [] named is fit = is
  steps id (s ∷ ss) named is fit = by (λ later here. steps id ss later here fit.1) (run (effect role s.statement) named) refl
    where
      by : ((later : Named) → IsLeft opening texts role later → IsLeft opening texts role (steps_until role id ss later).catalogue) → (r : Result Named Cause) → run (effect role s.statement) named ≡ r
          → IsLeft opening texts role (by_run (steps_until role id ss) id named r).catalogue
      by more (Ok later) e = more later (carried opening texts role s.statement named later is fit.0 e)
      by more (Err cause) e = is

  pub stopped : (planned : List Planned) (named : Named) → IsLeft opening texts role named → IsFitPlan planned → IsLeft opening texts role (serial_until role named planned).catalogue
  stopped [] named is fit = is
  stopped (p ∷ ps) named is fit =
      let s = steps_until role p.id p.steps named in
      by s (steps p.id p.steps named is fit.0) (λ here. stopped ps s.catalogue here fit.1) s.at
    where
      by : (s : Stopped) → IsLeft opening texts role s.catalogue → (IsLeft opening texts role s.catalogue → IsLeft opening texts role (serial_until role s.catalogue ps).catalogue) → (r : Option Note)
          → IsLeft opening texts role (by_stop (λ n. serial_until role n ps) s r).catalogue
      by s here more None = more here
      by s here more (Some note) = here
