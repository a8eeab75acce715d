use Rattle.cat_sound.proofs.Sequences.{set_value-keeps}
use Rattle.cat_sound.proofs.laws.set_value_keeps.Goals as goal

pub returns : goal.returns
returns c = λ texts named q n called sound. (set_value-keeps texts named sound q n called).is
