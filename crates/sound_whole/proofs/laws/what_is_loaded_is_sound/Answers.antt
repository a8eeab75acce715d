use Rattle.sound_whole.proofs.Loaded.{sound}
use Rattle.sound_whole.proofs.laws.what_is_loaded_is_sound.Goals as goal

pub returns : goal.returns
returns c = sound
