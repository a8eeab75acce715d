-- The errors of a restore in the order in which they are told: of each entry its owner statement that was refused, then the
-- statement at which it was.
use Rattle.std.specs.Prelude.{ℕ, List, [], ◌∷◌, ◌++◌, Option, Some, None}
use Rattle.cat_model.specs.Values.{Bytes, Named}
use Rattle.restore_plan.specs.declared.status.EntryStatus.{EntryStatus}
use Rattle.restore_plan.specs.declared.status.EntryStatus.TheVariants.{Done, Refused, Skipped}
use Rattle.restore_plan.specs.declared.status.Note.{Note}
use Rattle.restore_plan.specs.declared.planned.Planned.{Planned}
use Rattle.restore_plan.specs.Serial.{Ended, Left, entry_left, first_blocked}

-- an entry's refusal, if it was refused
abbrev pub refusal : ℕ → EntryStatus → List Note
refusal id Done = []
refusal id (Refused stmt cause) = record { dump_id = id; cause = cause } ∷ []
refusal id (Skipped by) = []

-- the errors of one entry
abbrev pub left_errors : ℕ → Left → List Note
left_errors id left = left.notes ++ refusal id left.status

-- those of entries behind the ones that have ended
abbrev pub errors_behind : Bytes → Ended → Named → List Planned → List Note
errors_behind boot ended named [] = []
errors_behind boot ended named (p ∷ ps) =
    let left = entry_left boot p named (first_blocked ended p.deps) in
    left_errors p.id left ++ errors_behind boot (ended ++ (p.id, left.status) ∷ []) left.catalogue ps

abbrev pub errors_told : Bytes → Named → List Planned → List Note
errors_told boot named ps = errors_behind boot [] named ps

abbrev pub first_of : List Note → Option Note
first_of [] = None
first_of (note ∷ notes) = Some note
