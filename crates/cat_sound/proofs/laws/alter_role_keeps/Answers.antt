use Rattle.cat_sound.proofs.Roles.{alter_role-keeps}
use Rattle.cat_sound.proofs.laws.alter_role_keeps.Goals as goal

pub returns : goal.returns
returns c = λ texts named name changes sound. (alter_role-keeps texts named sound name changes).is
