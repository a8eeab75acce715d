use Rattle.sound_whole.proofs.Loaded.{script_sound}
use Rattle.sound_whole.proofs.laws.what_a_script_leaves_is_sound.Goals as goal

pub returns : goal.returns
returns c = λ cat texts role text found is. script_sound cat texts is role text found
