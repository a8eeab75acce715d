use Rattle.restore_turns.proofs.Taking.{turn-enabled}
use Rattle.restore_turns.proofs.laws.turns_are_enabled.Goals as goal

pub returns : goal.returns
returns c = turn-enabled
