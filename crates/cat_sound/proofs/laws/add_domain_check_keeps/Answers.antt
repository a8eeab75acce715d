use Rattle.cat_sound.proofs.DomainChecks.{add_domain_check-keeps}
use Rattle.cat_sound.proofs.laws.add_domain_check_keeps.Goals as goal

pub returns : goal.returns
returns c = λ texts named q name text sound good. (add_domain_check-keeps texts named sound q name text good).is
