-- What is kept beside a plan: the places that each entry waits for, how many of these an entry has met, which blocks of
-- entries have one that is ready, and what each worker runs.
use Rattle.std.specs.Prelude.{◌≡◌, ℕ, ◌/◌, ◌<◌, ◌≤◌, Bool, true, false, List, length, Option, Some}
use Rattle.std.specs.Global.{Vec}
use Rattle.std.specs.List.{slice_get}
use Rattle.restore_plan.specs.declared.planned.Planned.{Planned}
use Rattle.restore_core.specs.declared.phase.Phase.{Phase}
use Rattle.restore_core.specs.declared.phase.Phase.TheVariants.{Running}
use Rattle.restore_queue.specs.Ready.{AllWaited, ended_in, is_ready_at}

-- how many entries a block has
abbrev pub block : ℕ
block = 512

-- so many of these places were met: their entries have ended, and the next one hasn't
pub record IsMet (phases : List Phase) (places : List ℕ) (m : ℕ) : Type 0 where
  pub within : m ≤ length places
  pub below : (k x : ℕ) → k < m → slice_get places k ≡ Some x → ended_in phases x ≡ true
  pub here : (x : ℕ) → slice_get places m ≡ Some x → ended_in phases x ≡ false

abbrev pub AllMet : List Phase → List (Vec ℕ) → List ℕ → Type 0
AllMet phases waits met = (i m : ℕ) (v : Vec ℕ) → slice_get waits i ≡ Some v → slice_get met i ≡ Some m → IsMet phases v.items m

-- so many at least
pub record IsPartly (phases : List Phase) (places : List ℕ) (m : ℕ) : Type 0 where
  pub within : m ≤ length places
  pub below : (k x : ℕ) → k < m → slice_get places k ≡ Some x → ended_in phases x ≡ true

abbrev pub AllPartly : List Phase → List (Vec ℕ) → List ℕ → Type 0
AllPartly phases waits met = (i m : ℕ) (v : Vec ℕ) → slice_get waits i ≡ Some v → slice_get met i ≡ Some m → IsPartly phases v.items m

-- the same but for what stands in one place
pub record IsNearly (phases : List Phase) (places : List ℕ) (m j : ℕ) : Type 0 where
  pub within : m ≤ length places
  pub below : (k x : ℕ) → k < m → slice_get places k ≡ Some x → ended_in phases x ≡ true
  pub here : (x : ℕ) → slice_get places m ≡ Some x → (x ≡ j → ⊥) → ended_in phases x ≡ false

abbrev pub AllNearly : List Phase → List (Vec ℕ) → List ℕ → ℕ → Type 0
AllNearly phases waits met j = (i m : ℕ) (v : Vec ℕ) → slice_get waits i ≡ Some v → slice_get met i ≡ Some m → IsNearly phases v.items m j

-- the block of each entry that is ready is marked
abbrev pub AreMarked : List Phase → List (Vec ℕ) → List ℕ → List Bool → Type 0
AreMarked phases waits met marks = (i : ℕ) → is_ready_at phases waits met i ≡ true → slice_get marks (i / block) ≡ Some true

-- which entry each worker runs
pub record AreRunning (phases : List Phase) (running : List (Option ℕ)) : Type 0 where
  pub many : length running ≡ 64
  pub runs : (w i : ℕ) → slice_get running w ≡ Some (Some i) → (run : ℕ) × (slice_get phases i ≡ Some (Running w run))
  pub is_run : (w i run : ℕ) → slice_get phases i ≡ Some (Running w run) → slice_get running w ≡ Some (Some i)

-- All that is kept beside a plan and its phases. An entry whose block isn't marked isn't ready; a block that is marked may
-- have none that is.
pub record Kept (plan : List Planned) (phases : List Phase) (waits : List (Vec ℕ)) (met : List ℕ) (marks : List Bool) (running : List (Option ℕ)) : Type 0 where
  pub many_waits : length waits ≡ length plan
  pub many_met : length met ≡ length plan
  pub waited : AllWaited plan waits
  pub met_all : AllMet phases waits met
  pub marked : AreMarked phases waits met marks
  pub running_all : AreRunning phases running
