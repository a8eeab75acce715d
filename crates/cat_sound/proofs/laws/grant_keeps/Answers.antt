use Rattle.cat_sound.proofs.GrantStatements.{grant-keeps}
use Rattle.cat_sound.proofs.laws.grant_keeps.Goals as goal

pub returns : goal.returns
returns c = λ texts named what rights who option sound fit. (grant-keeps texts named sound what rights who option fit).is
