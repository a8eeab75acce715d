-- Arcs in order, so that those of a place are found without going through them.
use Rattle.std.specs.Prelude.{◌≡◌, ℕ, ◌+◌, ◌^◌, ◌<◌, ◌≤◌, true, false, List, length, slice_index, nat_lt}
use Rattle.std.specs.List.{slice_range}
use Rattle.std.specs.List.Sorted.{IsNonDecreasingBy, IsPartitionPoint}
use Rattle.graph_walks.specs.Arcs.{Arc, arcs_from, AreWithin}

-- so many places, and the arcs among them
pub record Net : Type 0 where
  pub count : ℕ
  pub arcs : List Arc

-- where the arcs of lower places end, in arcs whose beginnings rise
pub record IsStart (arcs : List Arc) (place at : ℕ) : Type 0 where
  pub within : at ≤ length arcs
  pub splits : IsNonDecreasingBy (λ arc. arc.0) arcs → IsPartitionPoint (λ arc. nat_lt arc.0 place ≡ true) (λ arc. nat_lt arc.0 place ≡ false) arcs at

-- the starts of the first places
pub record AreStarts (arcs : List Arc) (count : ℕ) (starts : List ℕ) : Type 0 where
  pub count_is : length starts ≡ count
  pub each : (place : ℕ) → place < count → IsStart arcs place (slice_index starts place)

-- the arcs of a place stand between two numbers
pub record StandBetween (arcs : List Arc) (place start end : ℕ) : Type 0 where
  pub rising : start ≤ end
  pub within : end ≤ length arcs
  pub part : slice_range arcs start end ≡ arcs_from place arcs

-- the ends of arcs of one place rise
abbrev pub IsRising : List Arc → Type 0
IsRising arcs = IsNonDecreasingBy (λ arc. arc.1) arcs

-- arcs in order, and where those of each place are
pub record AreFound (count : ℕ) (arcs : List Arc) (starts : List ℕ) : Type 0 where
  pub few : count < 2 ^ 32
  pub within : AreWithin count arcs
  pub count_is : length starts ≡ count + 1
  pub between : (place : ℕ) → place < count → StandBetween arcs place (slice_index starts place) (slice_index starts (place + 1))
  pub rising : (place : ℕ) → IsRising (arcs_from place arcs)
