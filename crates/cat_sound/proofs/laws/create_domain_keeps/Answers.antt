use Rattle.cat_sound.proofs.Types.{create_domain-keeps}
use Rattle.cat_sound.proofs.laws.create_domain_keeps.Goals as goal

pub returns : goal.returns
returns c = λ texts named boot q base not_null expression checks sound boot_there typed good fit. (create_domain-keeps texts named sound boot q base not_null expression checks boot_there typed good fit).is
