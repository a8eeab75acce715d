use Rattle.cat_sound.proofs.GrantStatements.{revoke-keeps}
use Rattle.cat_sound.proofs.laws.revoke_keeps.Goals as goal

pub returns : goal.returns
returns c = λ texts named what rights who sound. (revoke-keeps texts named sound what rights who).is
