use Rattle.sound_folders.proofs.Opened.{scripted_sound}
use Rattle.sound_folders.proofs.laws.what_scripts_make_of_folders_is_sound.Goals as goal

pub returns : goal.returns
returns c = scripted_sound
