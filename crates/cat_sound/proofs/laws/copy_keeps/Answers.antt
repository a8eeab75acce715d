use Rattle.cat_sound.proofs.Copies.{copy_rows-keeps}
use Rattle.cat_sound.proofs.laws.copy_keeps.Goals as goal

pub returns : goal.returns
returns c = λ texts named q names rows sound. (copy_rows-keeps texts named sound q names rows).is
