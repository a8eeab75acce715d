-- The machine over the entries of a catalogue as a list, on which worked examples compute.
use Rattle.std.proofs.Common.{◌≡◌, ℕ, Bool, true, false, ◌&&◌, List, [], ◌∷◌, length, take, nat_lt, cond, Option, Some, None, refl, ap, sym, subst, ◌∙◌}
use Rattle.std.specs.List.{slice_get}
use Rattle.std.specs.FinMap.{entries}
use Rattle.cat_model.specs.declared.cause.Cause.{Cause}
use Rattle.cat_model.specs.Values.{Bytes, Named}
use Rattle.restore_plan.specs.declared.status.EntryStatus.TheVariants.{Done, Refused}
use Rattle.restore_plan.specs.declared.step.Step.{Step as Statement}
use Rattle.restore_plan.specs.Examples.{with_public}
use Rattle.restore_plan.specs.Serial.{Under_way}
use Rattle.restore_plan.proofs.ListRun.{Items, Way, of_way, until_in, until-in}
use Rattle.restore_core.specs.declared.event.Event.{Event}
use Rattle.restore_core.specs.declared.event.Event.TheVariants.{Start, Skip, Step}
use Rattle.restore_core.specs.declared.phase.Phase.{Phase}
use Rattle.restore_core.specs.declared.phase.Phase.TheVariants.{Waiting, Running, Ended}
use Rattle.restore_core.specs.Machine.{Going, State, blocked_by, enabled, changed_at, in_phase, skipped, under_way, ran_next, phase_behind, stepped_as, with_step, step_of, step_at, place_of, happens, IsLegal, after}
use Rattle.restore_core.proofs.Booleans.{and_first, and_second}

pub record Listed : Type 0 where
  pub items : Items
  pub entries : List Going

abbrev pub listed : State → Listed
listed s = record { items = entries s.catalogue; entries = s.entries }

-- ---- one event

abbrev way_of : Items → Going → ℕ → Way
way_of es x run = record { items = es; run = run; notes = x.notes; refused = None }

abbrev ran_in : Bytes → Items → Going → ℕ → Option Statement → Way
ran_in boot es x run (Some s) = until_in boot x.plan.id (way_of es x run) None s
ran_in boot es x run None = way_of es x run

abbrev phase_in : ℕ → ℕ → ℕ → Option Cause → Phase
phase_in worker many run (Some cause) = Ended (Refused run cause)
phase_in worker many run None = cond (nat_lt run many) (Running worker run) (Ended Done)

abbrev stepped_in : Way → ℕ → Going → Going
stepped_in w worker x = record { plan = x.plan; phase = phase_in worker (length x.plan.steps) w.run w.refused; notes = w.notes }

abbrev with_step_in : List Going → ℕ → ℕ → Way → Listed
with_step_in xs worker i w = record { items = w.items; entries = changed_at (stepped_in w worker) i xs }

abbrev step_of_in : Bytes → Listed → ℕ → Going → Phase → Listed
step_of_in boot s i x (Running worker run) = with_step_in s.entries worker i (ran_in boot s.items x run (slice_get x.plan.steps run))
step_of_in boot s i x _ = s

abbrev step_at_in : Bytes → Listed → ℕ → Option Going → Listed
step_at_in boot s i (Some x) = step_of_in boot s i x x.phase
step_at_in boot s i None = s

abbrev pub happens_in : Bytes → Listed → Event → Listed
happens_in boot s (Start worker i) = record { items = s.items; entries = changed_at (in_phase (Running worker 0)) i s.entries }
happens_in boot s (Skip i) = record { items = s.items; entries = changed_at (λ x. skipped (blocked_by (take i s.entries) x) x) i s.entries }
happens_in boot s (Step worker) = step_at_in boot s (place_of worker s.entries) (slice_get s.entries (place_of worker s.entries))

phase-in : (worker many : ℕ) (u : Under_way) (r : Option Cause) → phase_behind worker many u r ≡ phase_in worker many u.run r
phase-in worker many u (Some cause) = refl
phase-in worker many u None = refl

stepped-in : (u : Under_way) (worker : ℕ) → stepped_as u worker ≡ stepped_in (of_way u) worker
stepped-in u worker = λ i x. record { plan = x.plan; phase = phase-in worker (length x.plan.steps) u u.refused i; notes = u.notes }

with-step : (s : State) (worker i : ℕ) (u : Under_way) → listed (with_step s worker i u) ≡ with_step_in s.entries worker i (of_way u)
with-step s worker i u = ap (λ (f : Going → Going). let l : Listed = record { items = entries u.catalogue; entries = changed_at f i s.entries } in l) (stepped-in u worker)

ran-next : (boot : Bytes) (named : Named) (x : Going) (run : ℕ) (s : Option Statement) → of_way (ran_next boot named x run s) ≡ ran_in boot (entries named) x run s
ran-next boot named x run (Some s) = until-in boot x.plan.id (under_way named x run) None s
ran-next boot named x run None = refl

step-of : (boot : Bytes) (s : State) (i : ℕ) (x : Going) (p : Phase) → listed (step_of boot s i x p) ≡ step_of_in boot (listed s) i x p
step-of boot s i x Waiting = refl
step-of boot s i x (Running worker run) =
    with-step s worker i (ran_next boot s.catalogue x run (slice_get x.plan.steps run))
    ∙ ap (with_step_in s.entries worker i) (ran-next boot s.catalogue x run (slice_get x.plan.steps run))
step-of boot s i x (Ended status) = refl

step-at : (boot : Bytes) (s : State) (i : ℕ) (x : Option Going) → listed (step_at boot s i x) ≡ step_at_in boot (listed s) i x
step-at boot s i (Some x) = step-of boot s i x x.phase
step-at boot s i None = refl

happens-in : (boot : Bytes) (s : State) (e : Event) → listed (happens boot s e) ≡ happens_in boot (listed s) e
happens-in boot s (Start worker i) = refl
happens-in boot s (Skip i) = refl
happens-in boot s (Step worker) = step-at boot s (place_of worker s.entries) (slice_get s.entries (place_of worker s.entries))

-- ---- histories

abbrev pub after_in : Bytes → Listed → List Event → Listed
after_in boot s [] = s
after_in boot s (e ∷ es) = after_in boot (happens_in boot s e) es

pub after-in : (boot : Bytes) (s : State) (es : List Event) → listed (after boot s es) ≡ after_in boot (listed s) es
after-in boot s [] = refl
after-in boot s (e ∷ es) = after-in boot (happens boot s e) es ∙ ap (λ (l : Listed). after_in boot l es) (happens-in boot s e)

-- what is enabled goes by the entries alone
abbrev pub enabled_in : Listed → Event → Bool
enabled_in s e = enabled (record { catalogue = with_public; entries = s.entries }) e

pub enabled-in : (s : State) (e : Event) → enabled s e ≡ enabled_in (listed s) e
enabled-in s (Start worker i) = refl
enabled-in s (Skip i) = refl
enabled-in s (Step worker) = refl

abbrev pub legal_in : Bytes → Listed → List Event → Bool
legal_in boot s [] = true
legal_in boot s (e ∷ es) = enabled_in s e && legal_in boot (happens_in boot s e) es

pub legal-in : (boot : Bytes) (s : State) (es : List Event) → legal_in boot (listed s) es ≡ true → IsLegal boot s es
legal-in boot s [] h = tt
legal-in boot s (e ∷ es) h =
    let later = legal_in boot (happens_in boot (listed s) e) es in (
      enabled-in s e ∙ and_first (enabled_in (listed s) e) later h,
      legal-in boot (happens boot s e) es (ap (λ (l : Listed). legal_in boot l es) (happens-in boot s e) ∙ and_second (enabled_in (listed s) e) later h),
    )
