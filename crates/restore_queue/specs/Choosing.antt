-- What may become of an entry, and what a worker that runs none takes next.
use Rattle.std.specs.Prelude.{ℕ, ◌/◌, Bool, true, false, List, length, Option, Some, None, if◌then◌else◌}
use Rattle.std.specs.Global.{Vec}
use Rattle.std.specs.List.{find, list_any, range_with_len, slice_get}
use Rattle.std.specs.Option.{option_map_or}
use Rattle.restore_plan.specs.declared.planned.Planned.{Planned}
use Rattle.restore_core.specs.declared.phase.Phase.{Phase}
use Rattle.restore_turns.specs.declared.turn.Turn.{Turn}
use Rattle.restore_turns.specs.declared.turn.Turn.TheVariants as turns
use Rattle.restore_queue.specs.declared.choice.Choice.{Choice}
use Rattle.restore_queue.specs.declared.choice.Choice.TheVariants.{Skip, Run, Stay}
use Rattle.restore_queue.specs.Indexed.{block}
use Rattle.restore_queue.specs.Ready.{first_in, is_ready_at}
use Rattle.restore_queue.specs.Workers.{clash_in, is_any}

abbrev pub goes : Choice → Bool
goes Stay = false
goes _ = true

abbrev pub skips : Choice → Bool
skips Skip = true
skips _ = false

-- by the dependency that was refused or skipped, if there is one, and whether its locks clash
abbrev pub chosen : Option ℕ → Bool → Choice
chosen (Some by) clashes = Skip
chosen None true = Stay
chosen None false = Run

abbrev pub choice_of : List Planned → List Phase → List (Option ℕ) → List ℕ → Option Planned → Choice
choice_of plan phases running places (Some p) = chosen (first_in plan phases places p.deps) (list_any (clash_in plan p) running)
choice_of plan phases running places None = Stay

abbrev pub choice_in : List Planned → List Phase → List (Option ℕ) → Option (Vec ℕ) → Option Planned → Choice
choice_in plan phases running (Some v) p = choice_of plan phases running v.items p
choice_in plan phases running None p = Stay

abbrev pub choice_at : List Planned → List Phase → List (Vec ℕ) → List ℕ → List (Option ℕ) → ℕ → Choice
choice_at plan phases waits met running i =
    if is_ready_at phases waits met i then choice_in plan phases running (slice_get waits i) (slice_get plan i) else Stay

abbrev pub goes_at : List Planned → List Phase → List (Vec ℕ) → List ℕ → List (Option ℕ) → ℕ → Bool
goes_at plan phases waits met running i = goes (choice_at plan phases waits met running i)

abbrev pub skips_at : List Planned → List Phase → List (Vec ℕ) → List ℕ → List (Option ℕ) → ℕ → Bool
skips_at plan phases waits met running i = skips (choice_at plan phases waits met running i)

-- the block of an entry is marked
abbrev pub is_marked : List Bool → ℕ → Bool
is_marked marks i = option_map_or (λ is. is) (slice_get marks (i / block)) false

-- the first entry that may be skipped or started
abbrev pub first_place : List Planned → List Phase → List (Vec ℕ) → List ℕ → List (Option ℕ) → Option ℕ
first_place plan phases waits met running = find (goes_at plan phases waits met running) (range_with_len 0 (length plan))

abbrev pub turn_by : (ℕ → Bool) → Bool → Option ℕ → Turn
turn_by skips any_runs (Some i) = if skips i then turns.Skip i else turns.Run i
turn_by skips any_runs None = if any_runs then turns.NotYet else turns.Finished

abbrev pub next_turn : List Planned → List Phase → List (Vec ℕ) → List ℕ → List (Option ℕ) → Turn
next_turn plan phases waits met running =
    turn_by (skips_at plan phases waits met running) (list_any is_any running) (first_place plan phases waits met running)

abbrev pub turn_of : Turn → Option ℕ → Turn
turn_of next (Some i) = turns.Run i
turn_of next None = next
