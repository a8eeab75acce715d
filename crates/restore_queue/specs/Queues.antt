-- What a contract sees of a queue, and what a queue keeps besides.
use Rattle.std.specs.Prelude.{◌≡◌, ℕ, ◌*◌, ◌≤◌, Bool, true, List, length, Option, Some}
use Rattle.std.specs.Global.{Vec}
use Rattle.std.specs.List.{slice_get}
use Rattle.std.specs.Option.{option_map_or}
use Rattle.restore_plan.specs.declared.planned.Planned.{Planned}
use Rattle.restore_plan.specs.Entries.{is_among}
use Rattle.restore_core.specs.declared.phase.Phase.{Phase}
use Rattle.restore_queue.specs.Indexed.{Kept, block}

-- the entries of a plan, and where each of them is
pub record Lined : Type 0 where
  pub plan : List Planned
  pub phases : List Phase

-- a place is listed behind another; it counts as listed where there is no other
abbrev pub is_behind : List (Vec ℕ) → ℕ → ℕ → Bool
is_behind behind j i = option_map_or (λ places. is_among i places.items) (slice_get behind j) true

-- behind each place each entry is listed that waits for it
abbrev pub AreBehind : List (Vec ℕ) → List (Vec ℕ) → Type 0
AreBehind waits behind =
    (i j : ℕ) (v : Vec ℕ) → slice_get waits i ≡ Some v → is_among j v.items ≡ true → is_behind behind j i ≡ true

pub record Indexed (plan : List Planned) (phases : List Phase) (waits behind : List (Vec ℕ)) (met : List ℕ) (marks : List Bool) (running : List (Option ℕ)) : Type 0 where
  pub kept : Kept plan phases waits met marks running
  pub many_phases : length phases ≡ length plan
  pub many_behind : length behind ≡ length plan
  pub many_marks : length plan ≤ length marks * block
  pub behind_all : AreBehind waits behind
