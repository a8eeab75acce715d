use Rattle.cat_sound.proofs.KeyStatements.{add_unique-keeps}
use Rattle.cat_sound.proofs.laws.add_unique_keeps.Goals as goal

pub returns : goal.returns
returns c = λ texts named q name names rest sound good. (add_unique-keeps texts named sound q name names rest good).is
