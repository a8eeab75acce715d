use Rattle.cat_sound.proofs.Roles.{create_database-keeps}
use Rattle.cat_sound.proofs.laws.create_database_keeps.Goals as goal

pub returns : goal.returns
returns c = λ texts named boot name sound boot_there. (create_database-keeps texts named sound boot name boot_there).is
