use Rattle.cat_sound.proofs.Objects.{comment_on-keeps}
use Rattle.cat_sound.proofs.laws.comment_keeps.Goals as goal

pub returns : goal.returns
returns c = λ texts named what text sound. (comment_on-keeps texts named sound what text).is
