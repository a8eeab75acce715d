-- The board stands where it stood or later; each event leaves less to do.
use Rattle.restore_turns.specs.Measures.{left}
use Rattle.restore_board.specs.Standing.{IsLater, state}
use Rattle.restore_board.proofs.board.Board.finish_alone.Given as goal

abbrev pub invariant-events : goal.invariant-events
invariant-events l = IsLater l.initial.self l.self

abbrev pub decreases-events : goal.decreases-events
decreases-events l = left (state l.self).entries
