use Rattle.cat_sound.proofs.Sequences.{create_sequence-keeps}
use Rattle.cat_sound.proofs.laws.create_sequence_keeps.Goals as goal

pub returns : goal.returns
returns c = λ texts named boot q s sound boot_there. (create_sequence-keeps texts named sound boot q s boot_there).is
