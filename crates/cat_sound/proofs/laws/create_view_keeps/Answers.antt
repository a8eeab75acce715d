use Rattle.cat_sound.proofs.Sequences.{create_view-keeps}
use Rattle.cat_sound.proofs.laws.create_view_keeps.Goals as goal

pub returns : goal.returns
returns c = λ texts named boot q body sound boot_there good. (create_view-keeps texts named sound boot q body boot_there good).is
