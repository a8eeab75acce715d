use Rattle.opening_sound.proofs.Leaving.{opened}
use Rattle.opening_sound.proofs.laws.openings_are_in_order.Goals as goal

pub returns : goal.returns
returns c = opened
