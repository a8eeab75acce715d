-- The serial restore: the entries of a list one after another, with what came of each.
-- A dependency that was refused or skipped skips an entry; a refused owner statement makes a note and skips nothing.
use Rattle.std.specs.Prelude.{ℕ, ◌+◌, ◌==◌, Bool, true, false, ◌&&◌, List, [], ◌∷◌, ◌++◌, Option, Some, None, Result, Ok, Err, if◌then◌else◌}
use Rattle.std.specs.List.{list_any, find, fold}
use Rattle.cat_model.specs.declared.cause.Cause.{Cause}
use Rattle.cat_model.specs.Values.{Bytes, Named}
use Rattle.cat_model.specs.Effects.{effect}
use Rattle.cat_model.specs.Trees.{Change, seen, outcome, next, run}
use Rattle.restore_plan.specs.declared.status.EntryStatus.{EntryStatus}
use Rattle.restore_plan.specs.declared.status.EntryStatus.TheVariants.{Done, Refused, Skipped}
use Rattle.restore_plan.specs.declared.status.Note.{Note}
use Rattle.restore_plan.specs.declared.step.Step.{Step}
use Rattle.restore_plan.specs.declared.planned.Planned.{Planned}

-- ---- the statements of one entry

-- An entry under way: the catalogue, how many of its statements have run, its notes, and why the last one was refused,
-- where that ends the entry.
pub record Under_way : Type 0 where
  pub catalogue : Named
  pub run : ℕ
  pub notes : List Note
  pub refused : Option Cause

abbrev pub started : Named → Under_way
started named = record { catalogue = named; run = 0; notes = []; refused = None }

-- a refused owner statement is a note
abbrev pub noted : ℕ → Bool → Result (List Change) Cause → List Note
noted id is_owner (Ok changes) = []
noted id is_owner (Err cause) = if is_owner then record { dump_id = id; cause = cause } ∷ [] else []

-- any other refused statement ends its entry
abbrev pub ending : Bool → Result (List Change) Cause → Option Cause
ending is_owner (Ok changes) = None
ending is_owner (Err cause) = if is_owner then None else Some cause

-- after one more statement, which was taken or refused with a cause; one that is refused changes nothing
abbrev pub one_more : Bytes → ℕ → Under_way → Step → Under_way
one_more boot id w s =
    let said = outcome (effect boot s.statement) (seen w.catalogue) in
    record { catalogue = next (effect boot s.statement) w.catalogue; run = w.run + 1; notes = w.notes ++ noted id s.is_owner said; refused = ending s.is_owner said }

-- nothing runs behind a refusal
abbrev pub until_refusal : Bytes → ℕ → Under_way → Option Cause → Step → Under_way
until_refusal boot id w None s = one_more boot id w s
until_refusal boot id w (Some cause) s = w

-- after these statements, up to the first refusal
abbrev pub after_steps : Bytes → ℕ → List Step → Under_way → Under_way
after_steps boot id [] w = w
after_steps boot id (s ∷ ss) w = after_steps boot id ss (until_refusal boot id w w.refused s)

-- ---- what came of entries

-- an entry that was refused or skipped skips those that depend on it
abbrev pub blocks : EntryStatus → Bool
blocks Done = false
blocks (Refused n cause) = true
blocks (Skipped by) = true

-- what came of the entries so far: dump ids with statuses
abbrev pub Ended : Type 0
Ended = List (ℕ × EntryStatus)

abbrev pub is_blocked : Ended → ℕ → Bool
is_blocked ended id = list_any (λ e. e.0 == id && blocks e.1) ended

-- the first dependency that was refused or skipped
abbrev pub first_blocked : Ended → List ℕ → Option ℕ
first_blocked ended deps = find (is_blocked ended) deps

abbrev pub status_of : Under_way → Option Cause → EntryStatus
status_of w None = Done
status_of w (Some cause) = Refused w.run cause

-- ---- the restore

-- what a restore leaves: the catalogue, the statuses and the notes in the order of the list
pub record Restored : Type 0 where
  pub catalogue : Named
  pub statuses : List EntryStatus
  pub notes : List Note

-- what one entry leaves
pub record Left : Type 0 where
  pub catalogue : Named
  pub status : EntryStatus
  pub notes : List Note

abbrev pub left_by : Under_way → Left
left_by w = record { catalogue = w.catalogue; status = status_of w w.refused; notes = w.notes }

abbrev pub entry_left : Bytes → Planned → Named → Option ℕ → Left
entry_left boot p named (Some by) = record { catalogue = named; status = Skipped by; notes = [] }
entry_left boot p named None = left_by (after_steps boot p.id p.steps (started named))

abbrev pub with_entry : Left → Restored → Restored
with_entry e later = record { catalogue = later.catalogue; statuses = e.status ∷ later.statuses; notes = e.notes ++ later.notes }

-- the serial restore of the entries behind those that have ended
abbrev pub serial_behind : Bytes → Ended → Named → List Planned → Restored
serial_behind boot ended named [] = record { catalogue = named; statuses = []; notes = [] }
serial_behind boot ended named (p ∷ ps) =
    let e = entry_left boot p named (first_blocked ended p.deps) in
    with_entry e (serial_behind boot (ended ++ (p.id, e.status) ∷ []) e.catalogue ps)

-- the serial restore; boot is the name of the role that owns what is created
abbrev pub serial : Bytes → Named → List Planned → Restored
serial boot opening ps = serial_behind boot [] opening ps

-- ---- the restore that ends at the first refusal or note

pub record Stopped : Type 0 where
  pub catalogue : Named
  pub at : Option Note

abbrev pub steps_until : Bytes → ℕ → List Step → Named → Stopped
steps_until boot id [] named = record { catalogue = named; at = None }
steps_until boot id (s ∷ ss) named =
    elim (run (effect boot s.statement) named) [
      | Ok after ↦ steps_until boot id ss after
      | Err cause ↦ record { catalogue = named; at = Some (record { dump_id = id; cause = cause }) }
    ]

-- no entry is skipped before the first refusal
abbrev pub serial_until : Bytes → Named → List Planned → Stopped
serial_until boot named [] = record { catalogue = named; at = None }
serial_until boot named (p ∷ ps) =
    let s = steps_until boot p.id p.steps named in
    elim s.at [ None ↦ serial_until boot s.catalogue ps | Some note ↦ s ]
