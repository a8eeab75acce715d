use Rattle.cat_sound.proofs.Roles.{create_role-keeps}
use Rattle.cat_sound.proofs.laws.create_role_keeps.Goals as goal

pub returns : goal.returns
returns c = λ texts named name sound. (create_role-keeps texts named sound name).is
