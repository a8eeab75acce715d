use Rattle.std.proofs.Common.{refl}
use Rattle.restore_board.proofs.Later.{later-none, later-still}
use Rattle.restore_board.proofs.board.Board.finish_alone.Goals as goal

pub events-init : goal.events-init
events-init c = later-none _ _ refl

pub events-preserved : goal.events-preserved
events-preserved c = later-still _ _ _ c.events.invariant c.in_ok-go_further.ensures.later
