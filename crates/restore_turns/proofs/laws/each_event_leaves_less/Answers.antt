use Rattle.restore_turns.proofs.Lessening.{lessens}
use Rattle.restore_turns.proofs.laws.each_event_leaves_less.Goals as goal

pub returns : goal.returns
returns c = lessens
