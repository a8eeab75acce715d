use Rattle.opening_sound.proofs.Made.{left_exported}
use Rattle.opening_sound.proofs.laws.what_is_left_can_be_exported.Goals as goal

pub returns : goal.returns
returns c = left_exported
