use Rattle.cat_sound.proofs.Sequences.{set_default-keeps}
use Rattle.cat_sound.proofs.laws.set_default_keeps.Goals as goal

pub returns : goal.returns
returns c = λ texts named q column text sound good. (set_default-keeps texts named sound q column text good).is
