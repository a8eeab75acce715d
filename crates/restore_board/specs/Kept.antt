-- What a board keeps: it stands where its history leads to, and there is room for what is to come.
use Rattle.std.specs.Prelude.{◌≡◌, ℕ, ◌≤◌, List, [], ◌∷◌, length}
use Rattle.cat_model.specs.Values.{Bytes, Named}
use Rattle.restore_plan.specs.declared.planned.Planned.{Planned}
use Rattle.restore_plan.specs.declared.status.EntryStatus.{EntryStatus}
use Rattle.restore_plan.specs.declared.status.Note.{Note}
use Rattle.restore_core.specs.declared.phase.Phase.{Phase}
use Rattle.restore_core.specs.Machine.{Going}
use Rattle.restore_turns.specs.Measures.{most_events}
use Rattle.restore_board.specs.Standing.{Standing, state, HasLegalHistory}

-- entries in their places, where each of them is, and its notes so far
abbrev pub goings : List Planned → List Phase → List (List Note) → List Going
goings (p ∷ ps) (f ∷ fs) (n ∷ ns) = record { plan = p; phase = f; notes = n } ∷ goings ps fs ns
goings _ _ _ = []

-- the catalogue, its role, the entries' phases and notes, for how many events there is room, and for how many statuses
pub record Kept (s : Standing) (named : Named) (role : Bytes) (phases : List Phase) (notes : List (List Note)) (events : ℕ) (statuses : List EntryStatus) (room : ℕ) : Type 0 where
  pub legal : HasLegalHistory s
  pub leads : state s ≡ record { catalogue = named; entries = goings s.plan phases notes }
  pub same_role : role ≡ s.boot
  pub many_phases : length phases ≡ length s.plan
  pub many_notes : length notes ≡ length s.plan
  pub has_room : most_events s.plan ≤ events
  pub no_status : statuses ≡ []
  pub has_statuses : length s.plan ≤ room
