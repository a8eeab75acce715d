-- What a worker does next: it runs the entry that it has; else it takes the first entry, in the order of the list, that may
-- be skipped or started. Where there is none it waits, or it is finished once every entry has ended.
use Rattle.std.specs.Prelude.{ℕ, Bool, ◌||◌, length, Option, Some, None, if◌then◌else◌}
use Rattle.std.specs.List.{find, range_with_len}
use Rattle.restore_core.specs.declared.event.Event.{Event}
use Rattle.restore_core.specs.declared.event.Event.TheVariants as event
use Rattle.restore_core.specs.Machine.{State, is_free, enabled, place_of, all_ended}
use Rattle.restore_turns.specs.declared.turn.Turn.{Turn}
use Rattle.restore_turns.specs.declared.turn.Turn.TheVariants.{Run, Skip, NotYet, Finished}

abbrev pub may_go : ℕ → State → ℕ → Bool
may_go worker s i = enabled s (event.Skip i) || enabled s (event.Start worker i)

abbrev pub first_to_go : ℕ → State → Option ℕ
first_to_go worker s = find (may_go worker s) (range_with_len 0 (length s.entries))

abbrev pub turn_at : State → Option ℕ → Turn
turn_at s (Some i) = if enabled s (event.Skip i) then Skip i else Run i
turn_at s None = if all_ended s then Finished else NotYet

abbrev pub turn : ℕ → State → Turn
turn worker s = if is_free worker s.entries then turn_at s (first_to_go worker s) else Run (place_of worker s.entries)

-- the event that a turn begins with; none where the worker runs its entry already, waits or is finished
abbrev pub event_of : ℕ → State → Turn → Option Event
event_of worker s (Run i) = if is_free worker s.entries then Some (event.Start worker i) else None
event_of worker s (Skip i) = Some (event.Skip i)
event_of worker s NotYet = None
event_of worker s Finished = None
