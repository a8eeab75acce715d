-- The events of the entries so far with those of the others are all.
use Rattle.std.proofs.Common.{◌≡◌, ◌+◌, drop}
use Rattle.restore_turns.specs.Measures.{most_events}
use Rattle.restore_board.proofs.beginning.most_events.Given as goal

abbrev pub invariant-loop-planned : goal.invariant-loop-planned
invariant-loop-planned l = l.events + most_events (drop l.planned-index l.plan) ≡ most_events l.plan
