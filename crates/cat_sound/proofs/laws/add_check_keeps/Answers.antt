use Rattle.cat_sound.proofs.Indexes.{add_check-keeps}
use Rattle.cat_sound.proofs.laws.add_check_keeps.Goals as goal

pub returns : goal.returns
returns c = λ texts named q name text sound good. (add_check-keeps texts named sound q name text good).is
