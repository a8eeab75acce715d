use Rattle.restore_runs.proofs.Own.{in_turn}
use Rattle.restore_runs.proofs.laws.lines_stand_in_turn.Goals as goal

pub returns : goal.returns
returns c = in_turn
