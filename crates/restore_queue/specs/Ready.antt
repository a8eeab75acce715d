-- Whether an entry may be started or skipped, told from the places of those that have to end before it.
use Rattle.std.specs.Prelude.{◌≡◌, ℕ, Bool, true, false, ◌==◌, ◌&&◌, List, length, Option, Some}
use Rattle.std.specs.Global.{Vec}
use Rattle.std.specs.List.{slice_get, list_any, find}
use Rattle.std.specs.Option.{option_map_or}
use Rattle.restore_plan.specs.declared.planned.Planned.{Planned}
use Rattle.restore_plan.specs.Entries.{is_among}
use Rattle.restore_plan.specs.Order.{before_at}
use Rattle.restore_plan.specs.Serial.{blocks}
use Rattle.restore_core.specs.declared.phase.Phase.{Phase}
use Rattle.restore_core.specs.declared.phase.Phase.TheVariants.{Ended}
use Rattle.restore_core.specs.Phases.{has_ended, is_waiting}

-- the places of those that have to end before the i-th starts
abbrev pub AreWaited : List Planned → ℕ → List ℕ → Type 0
AreWaited plan i places = (k : ℕ) → is_among k places ≡ before_at plan k i

-- these places for each entry
abbrev pub AllWaited : List Planned → List (Vec ℕ) → Type 0
AllWaited plan waits = (i : ℕ) (v : Vec ℕ) → slice_get waits i ≡ Some v → AreWaited plan i v.items

-- the entry in this place has ended; so it is where there is none
abbrev pub ended_in : List Phase → ℕ → Bool
ended_in phases i = option_map_or has_ended (slice_get phases i) true

-- it was refused or skipped
abbrev pub is_blocking : Phase → Bool
is_blocking (Ended status) = blocks status
is_blocking _ = false

abbrev pub blocking_in : List Phase → ℕ → Bool
blocking_in phases i = option_map_or is_blocking (slice_get phases i) false

-- the entry in this place has this dump id, and it was refused or skipped
abbrev pub blocks_in : List Planned → List Phase → ℕ → ℕ → Bool
blocks_in plan phases id i = option_map_or (λ p. p.id == id) (slice_get plan i) false && blocking_in phases i

-- the first of these dump ids that one of the entries in these places has which were refused or skipped
abbrev pub first_in : List Planned → List Phase → List ℕ → List ℕ → Option ℕ
first_in plan phases places ids = find (λ id. list_any (blocks_in plan phases id) places) ids

-- the entry in this place waits
abbrev pub waits_in : List Phase → ℕ → Bool
waits_in phases i = option_map_or is_waiting (slice_get phases i) false

-- all of an entry's places were met
abbrev pub has_met : Option (Vec ℕ) → Option ℕ → Bool
has_met v m = option_map_or (λ places. option_map_or (λ n. n == length places.items) m false) v false

-- the i-th entry waits, and all of those that it waits for have been met
abbrev pub is_ready_at : List Phase → List (Vec ℕ) → List ℕ → ℕ → Bool
is_ready_at phases waits met i = waits_in phases i && has_met (slice_get waits i) (slice_get met i)
