use Rattle.std.proofs.Common.{ap, ◌∙◌}
use Rattle.restore_turns.specs.declared.turn.Turn.{Turn}
use Rattle.restore_turns.specs.Turns.{event_of}
use Rattle.restore_board.specs.Standing.{state, with_event}
use Rattle.restore_board.proofs.Told.{same-lined}
use Rattle.restore_board.proofs.board.Board.take.Goals as goal

pub begin_turn-requires-clause-turn : goal.begin_turn-requires-clause-turn
begin_turn-requires-clause-turn c = c.turn-taken.ensures (state c.args.self.now) (same-lined _ _ _ _ _ _ _ _ c.self.invariant _ c.self.view_is)

pub returns : goal.returns
returns c =
    let s = state c.args.self.now in
    let is = c.turn-taken.ensures s (same-lined _ _ _ _ _ _ _ _ c.self.invariant _ c.self.view_is) in
    record {
      turn = is;
      event = c.begin_turn.ensures ∙ ap (λ (t : Turn). with_event (event_of c.args.worker s t) c.args.self.now) is;
    }
