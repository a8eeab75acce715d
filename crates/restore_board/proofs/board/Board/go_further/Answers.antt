use Rattle.restore_board.proofs.Told.{same-lined}
use Rattle.restore_board.specs.Standing.{state}
use Rattle.restore_board.proofs.board.Board.go_further.Goals as goal

pub step_one-requires : goal.step_one-requires
step_one-requires c =
    (c.first_worker.ensures.some (state c.args.self.now).entries c.in-Some.worker (same-lined _ _ _ _ _ _ _ _ c.self.invariant _ c.self.view_is) c.in-Some.is).1

pub start_one-requires : goal.start_one-requires
start_one-requires c =
    c.first_worker.ensures.none (state c.args.self.now).entries (same-lined _ _ _ _ _ _ _ _ c.self.invariant _ c.self.view_is) c.in-None.is
