use Rattle.cat_sound.proofs.Objects.{create_schema-keeps}
use Rattle.cat_sound.proofs.laws.create_schema_keeps.Goals as goal

pub returns : goal.returns
returns c = λ texts named boot name sound boot_there. (create_schema-keeps texts named sound boot name boot_there).is
