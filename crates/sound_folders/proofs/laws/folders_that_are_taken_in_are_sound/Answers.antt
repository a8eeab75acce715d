use Rattle.sound_folders.proofs.Opened.{folder_sound}
use Rattle.sound_folders.proofs.laws.folders_that_are_taken_in_are_sound.Goals as goal

pub returns : goal.returns
returns c = folder_sound
