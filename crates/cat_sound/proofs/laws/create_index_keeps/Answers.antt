use Rattle.cat_sound.proofs.Indexes.{create_index-keeps}
use Rattle.cat_sound.proofs.laws.create_index_keeps.Goals as goal

pub returns : goal.returns
returns c = λ texts named q name method rest sound good. (create_index-keeps texts named sound q name method rest good).is
