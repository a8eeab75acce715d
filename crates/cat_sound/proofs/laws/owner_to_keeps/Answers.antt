use Rattle.cat_sound.proofs.OwnerTo.{owner_to-keeps}
use Rattle.cat_sound.proofs.laws.owner_to_keeps.Goals as goal

pub returns : goal.returns
returns c = λ texts named what role sound. (owner_to-keeps texts named sound what role).is
