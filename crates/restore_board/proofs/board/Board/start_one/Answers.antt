use Rattle.std.proofs.Common.{sym, ◌∙◌}
use Rattle.restore_turns.specs.Turns.{event_of, turn}
use Rattle.restore_board.specs.Standing.{state}
use Rattle.restore_board.proofs.Later.{ended-turn, later-event, less-turn}
use Rattle.restore_board.proofs.board.Board.start_one.Goals as goal

pub returns-in-Finished : goal.returns-in-Finished
returns-in-Finished c = record {
  later = later-event _ _ (event_of 0 (state c.args.self.now) (turn 0 (state c.args.self.now))) c.start.ensures.event;
  nearer = tt;
  ended = ended-turn c.args.self.now c.start.new.self c.requires c.start.ensures.event (sym c.in-Finished.is ∙ c.start.ensures.turn);
}

pub returns-in-Run : goal.returns-in-Run
returns-in-Run c = record {
  later = later-event _ _ (event_of 0 (state c.args.self.now) (turn 0 (state c.args.self.now))) c.start.ensures.event;
  nearer = less-turn c.args.self.now c.start.new.self c.requires c.start.ensures.event _ (sym c.in-Run.is ∙ c.start.ensures.turn) (λ e. cc);
  ended = tt;
}

pub returns-in-Skip : goal.returns-in-Skip
returns-in-Skip c = record {
  later = later-event _ _ (event_of 0 (state c.args.self.now) (turn 0 (state c.args.self.now))) c.start.ensures.event;
  nearer = less-turn c.args.self.now c.start.new.self c.requires c.start.ensures.event _ (sym c.in-Skip.is ∙ c.start.ensures.turn) (λ e. cc);
  ended = tt;
}

pub returns-in-NotYet : goal.returns-in-NotYet
returns-in-NotYet c = record {
  later = later-event _ _ (event_of 0 (state c.args.self.now) (turn 0 (state c.args.self.now))) c.start.ensures.event;
  nearer = less-turn c.args.self.now c.start.new.self c.requires c.start.ensures.event _ (sym c.in-NotYet.is ∙ c.start.ensures.turn) (λ e. cc);
  ended = tt;
}
