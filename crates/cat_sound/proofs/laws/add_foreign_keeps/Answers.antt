use Rattle.cat_sound.proofs.Indexes.{add_foreign-keeps}
use Rattle.cat_sound.proofs.laws.add_foreign_keeps.Goals as goal

pub returns : goal.returns
returns c = λ texts named q name names parent parent_names rest sound good. (add_foreign-keeps texts named sound q name names parent parent_names rest good).is
