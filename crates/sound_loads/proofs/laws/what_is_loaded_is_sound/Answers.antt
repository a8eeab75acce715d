use Rattle.sound_loads.proofs.Whole.{loaded_sound}
use Rattle.sound_loads.proofs.laws.what_is_loaded_is_sound.Goals as goal

pub returns : goal.returns
returns c = loaded_sound
