use Rattle.cat_sound.proofs.Roles.{grant_role-keeps}
use Rattle.cat_sound.proofs.laws.grant_role_keeps.Goals as goal

pub returns : goal.returns
returns c = λ texts named boot role member grantor admin inherit may_set sound boot_there. (grant_role-keeps texts named sound boot role member grantor admin inherit may_set boot_there).is
