use Rattle.restore_core.specs.declared.event.Event.TheVariants.{Start, Skip}
use Rattle.restore_board.specs.Standing.{state}
use Rattle.restore_board.proofs.Taken.{may, runs, skips}
use Rattle.restore_board.proofs.board.Board.begin_turn.Goals as goal

pub begin_entry-requires : goal.begin_entry-requires
begin_entry-requires c =
    let s = state c.args.self.now in
    may c.args.worker s (Start c.args.worker c.in-Run.entry) (runs c.args.worker s c.args.taken c.requires.turn c.in-Run.entry c.requires.free c.in-Run.is)

pub skip_entry-requires : goal.skip_entry-requires
skip_entry-requires c =
    let s = state c.args.self.now in
    may c.args.worker s (Skip c.in-Skip.entry) (skips c.args.worker s c.args.taken c.requires.turn c.in-Skip.entry c.in-Skip.is)
