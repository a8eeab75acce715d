use Rattle.cat_sound.proofs.Sequences.{owned_by-keeps}
use Rattle.cat_sound.proofs.laws.owned_by_keeps.Goals as goal

pub returns : goal.returns
returns c = λ texts named q table column sound. (owned_by-keeps texts named sound q table column).is
