use Rattle.std.proofs.Common.{subst}
use Rattle.restore_board.specs.Standing.{HasLegalHistory}
use Rattle.restore_board.proofs.board.Board.history.Goals as goal

pub returns-clause-legal : goal.returns-clause-legal
returns-clause-legal c = subst HasLegalHistory c.self.view_is c.self.invariant.legal
