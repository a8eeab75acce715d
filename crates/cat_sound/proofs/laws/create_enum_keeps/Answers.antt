use Rattle.cat_sound.proofs.Types.{create_enum-keeps}
use Rattle.cat_sound.proofs.laws.create_enum_keeps.Goals as goal

pub returns : goal.returns
returns c = λ texts named boot q labels sound boot_there. (create_enum-keeps texts named sound boot q labels boot_there).is
