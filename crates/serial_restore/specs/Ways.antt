-- What a run has come to so far: entries under way with their causes in lists, and restores with what is to come.
use Rattle.std.specs.Prelude.{◌≡◌, ℕ, Bool, true, false, List, [], ◌∷◌, ◌++◌, Option, Some, None}
use Rattle.cat_model.specs.declared.cause.Cause.{Cause}
use Rattle.cat_model.specs.Values.{Named}
use Rattle.restore_plan.specs.declared.status.EntryStatus.{EntryStatus}
use Rattle.restore_plan.specs.declared.status.EntryStatus.TheVariants.{Done, Refused}
use Rattle.restore_plan.specs.declared.status.Note.{Note}
use Rattle.restore_plan.specs.Serial.{Under_way, Restored, Left, Stopped, blocks}

-- an entry under way whose statements so far weren't refused
abbrev pub way : Named → ℕ → List Note → Under_way
way named run notes = record { catalogue = named; run = run; notes = notes; refused = None }

-- the cause of a refusal as a list, empty where there is none
abbrev pub listed : Option Cause → List Cause
listed None = []
listed (Some cause) = cause ∷ []

abbrev pub is_any : {A : Type 0} → List A → Bool
is_any [] = false
is_any (x ∷ xs) = true

-- what was told of an entry under way: its catalogue, how many statements ran, its notes, and its refusal
abbrev pub IsAt : Under_way → Named → ℕ → List Note → List Cause → Type 0
IsAt w named run notes refused = (named ≡ w.catalogue) × (run ≡ w.run) × (notes ≡ w.notes) × (refused ≡ listed w.refused)

-- the status of an entry of which so many statements ran, and which was refused or wasn't
abbrev pub status_by : ℕ → Option Cause → EntryStatus
status_by run None = Done
status_by run (Some cause) = Refused run cause

-- What a call left of an entry: the catalogue, one more status, more notes, and whether it blocks others.
pub record Leaves (e : Left) (named : Named) (statuses more_statuses : List EntryStatus) (notes more_notes : List Note) (is_blocking : Bool) : Type 0 where
  pub catalogue : named ≡ e.catalogue
  pub status : more_statuses ≡ statuses ++ e.status ∷ []
  pub noted : more_notes ≡ notes ++ e.notes
  pub blocking : is_blocking ≡ blocks e.status

-- the same but for what it blocks
pub record IsLeft (e : Left) (named : Named) (statuses more_statuses : List EntryStatus) (notes more_notes : List Note) : Type 0 where
  pub catalogue : named ≡ e.catalogue
  pub status : more_statuses ≡ statuses ++ e.status ∷ []
  pub noted : more_notes ≡ notes ++ e.notes

-- a restore of which these statuses and notes come first
abbrev pub behind : List EntryStatus → List Note → Restored → Restored
behind statuses notes r = record { catalogue = r.catalogue; statuses = statuses ++ r.statuses; notes = notes ++ r.notes }

-- where a restore ended as a list, empty where it came to its end
abbrev pub stop_of : Option Note → List Note
stop_of None = []
stop_of (Some note) = note ∷ []

-- what was told of a restore that may have ended at a refusal: its catalogue, and where it ended
abbrev pub Stops : Stopped → Named → List Note → Type 0
Stops s named stop = (named ≡ s.catalogue) × (stop ≡ stop_of s.at)
