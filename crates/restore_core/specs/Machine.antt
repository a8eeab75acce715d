-- The restore as a machine: its state, what may happen in it, and what then is.
-- Any event that is enabled may come next; a history is legal where each of its events is enabled in its turn.
use Rattle.std.specs.Prelude.{◌≡◌, ℕ, zero, suc, Bool, true, false, ◌&&◌, ◌||◌, not, nat_lt, List, [], ◌∷◌, ◌++◌, map, length, take, Option, Some, None, is_none, if◌then◌else◌}
use Rattle.std.specs.Option.{option_map}
use Rattle.std.specs.List.{list_any, list_all, find, filter_map, flat_map, slice_get, position_or_len}
use Rattle.cat_model.specs.declared.cause.Cause.{Cause}
use Rattle.cat_model.specs.Values.{Bytes, Named}
use Rattle.restore_plan.specs.declared.status.EntryStatus.{EntryStatus}
use Rattle.restore_plan.specs.declared.status.EntryStatus.TheVariants.{Done, Refused, Skipped}
use Rattle.restore_plan.specs.declared.status.Note.{Note}
use Rattle.restore_plan.specs.declared.step.Step.{Step as Statement}
use Rattle.restore_plan.specs.declared.planned.Planned.{Planned}
use Rattle.restore_plan.specs.Order.{before, clash}
use Rattle.restore_plan.specs.Serial.{Under_way, one_more, first_blocked, Restored}
use Rattle.restore_plan.specs.Serial as serial
use Rattle.restore_core.specs.declared.event.Event.{Event}
use Rattle.restore_core.specs.declared.event.Event.TheVariants.{Start, Skip, Step}
use Rattle.restore_core.specs.declared.phase.Phase.{Phase}
use Rattle.restore_core.specs.declared.phase.Phase.TheVariants.{Waiting, Running, Ended}
use Rattle.restore_core.specs.Phases.{is_waiting, is_running, is_run_by, has_ended, status_in}

-- an entry in its place, where it is, and its notes so far
pub record Going : Type 0 where
  pub plan : Planned
  pub phase : Phase
  pub notes : List Note

-- the catalogue, and the entries in the order of the list
pub record State : Type 0 where
  pub catalogue : Named
  pub entries : List Going

-- every entry waits
abbrev pub first : Named → List Planned → State
first opening ps = record { catalogue = opening; entries = map (λ p. record { plan = p; phase = Waiting; notes = [] }) ps }

-- ---- what is enabled

abbrev pub with_status : ℕ → Option EntryStatus → Option (ℕ × EntryStatus)
with_status id status = option_map (λ s. (id, s)) status

-- those of the entries that have ended
abbrev pub ended_of : List Going → serial.Ended
ended_of entries = filter_map (λ x. with_status x.plan.id (status_in x.phase)) entries

-- each of the earlier entries that has to end before it has ended
abbrev pub all_before_ended : List Going → Planned → Bool
all_before_ended earlier p = list_all (λ x. has_ended x.phase || not (before x.plan p)) earlier

abbrev pub is_ready : List Going → Going → Bool
is_ready earlier x = is_waiting x.phase && all_before_ended earlier x.plan

-- the first of its dependencies that was refused or skipped
abbrev pub blocked_by : List Going → Going → Option ℕ
blocked_by earlier x = first_blocked (ended_of earlier) x.plan.deps

-- the worker runs no entry
abbrev pub is_free : ℕ → List Going → Bool
is_free worker entries = not (list_any (λ x. is_run_by worker x.phase) entries)

-- its locks meet those of no running entry
abbrev pub locks_are_free : List Going → Planned → Bool
locks_are_free entries p = not (list_any (λ x. is_running x.phase && clash p x.plan) entries)

abbrev pub may_start : List Going → List Going → Option Going → Bool
may_start entries earlier (Some x) = is_ready earlier x && (is_none (blocked_by earlier x) && locks_are_free entries x.plan)
may_start entries earlier None = false

abbrev pub may_skip : List Going → Option Going → Bool
may_skip earlier (Some x) = is_ready earlier x && not (is_none (blocked_by earlier x))
may_skip earlier None = false

-- there are at most 64 workers
abbrev pub enabled : State → Event → Bool
enabled s (Start worker i) = nat_lt worker 64 && (is_free worker s.entries && may_start s.entries (take i s.entries) (slice_get s.entries i))
enabled s (Skip i) = may_skip (take i s.entries) (slice_get s.entries i)
enabled s (Step worker) = list_any (λ x. is_run_by worker x.phase) s.entries

-- ---- what then is

-- the i-th entry changes
abbrev pub changed_at : (Going → Going) → ℕ → List Going → List Going
changed_at change i [] = []
changed_at change zero (x ∷ xs) = change x ∷ xs
changed_at change (suc i) (x ∷ xs) = x ∷ changed_at change i xs

abbrev pub in_phase : Phase → Going → Going
in_phase phase x = record { plan = x.plan; phase = phase; notes = x.notes }

abbrev pub skipped : Option ℕ → Going → Going
skipped (Some by) x = in_phase (Ended (Skipped by)) x
skipped None x = x

-- an entry under way, over a catalogue
abbrev pub under_way : Named → Going → ℕ → Under_way
under_way named x run = record { catalogue = named; run = run; notes = x.notes; refused = None }

-- its next statement, if there is one, has run
abbrev pub ran_next : Bytes → Named → Going → ℕ → Option Statement → Under_way
ran_next boot named x run (Some s) = one_more boot x.plan.id (under_way named x run) s
ran_next boot named x run None = under_way named x run

-- it ends with its last statement, or with a refusal
abbrev pub phase_behind : ℕ → ℕ → Under_way → Option Cause → Phase
phase_behind worker many u (Some cause) = Ended (Refused u.run cause)
phase_behind worker many u None = if nat_lt u.run many then Running worker u.run else Ended Done

abbrev pub stepped_as : Under_way → ℕ → Going → Going
stepped_as u worker x = record { plan = x.plan; phase = phase_behind worker (length x.plan.steps) u u.refused; notes = u.notes }

abbrev pub with_step : State → ℕ → ℕ → Under_way → State
with_step s worker i u = record { catalogue = u.catalogue; entries = changed_at (stepped_as u worker) i s.entries }

-- the i-th entry takes a step, where it runs
abbrev pub step_of : Bytes → State → ℕ → Going → Phase → State
step_of boot s i x (Running worker run) = with_step s worker i (ran_next boot s.catalogue x run (slice_get x.plan.steps run))
step_of boot s i x _ = s

abbrev pub step_at : Bytes → State → ℕ → Option Going → State
step_at boot s i (Some x) = step_of boot s i x x.phase
step_at boot s i None = s

-- the place of the entry that the worker runs
abbrev pub place_of : ℕ → List Going → ℕ
place_of worker entries = position_or_len (λ x. is_run_by worker x.phase) entries

abbrev pub happens : Bytes → State → Event → State
happens boot s (Start worker i) = record { catalogue = s.catalogue; entries = changed_at (in_phase (Running worker 0)) i s.entries }
happens boot s (Skip i) = record { catalogue = s.catalogue; entries = changed_at (λ x. skipped (blocked_by (take i s.entries) x) x) i s.entries }
happens boot s (Step worker) = step_at boot s (place_of worker s.entries) (slice_get s.entries (place_of worker s.entries))

-- ---- histories

abbrev pub IsLegal : Bytes → State → List Event → Type 0
IsLegal boot s [] = Unit {0}
IsLegal boot s (e ∷ es) = (enabled s e ≡ true) × IsLegal boot (happens boot s e) es

-- the state that a history leads to
abbrev pub after : Bytes → State → List Event → State
after boot s [] = s
after boot s (e ∷ es) = after boot (happens boot s e) es

-- ---- the end

abbrev pub all_ended : State → Bool
all_ended s = list_all (λ x. has_ended x.phase) s.entries

-- the statuses of the entries that have ended, and the notes, in the order of the list
abbrev pub result_of : State → Restored
result_of s = record { catalogue = s.catalogue; statuses = filter_map (λ x. status_in x.phase) s.entries; notes = flat_map (λ x. x.notes) s.entries }
