use Rattle.cat_sound.proofs.Statements.{statement-keeps}
use Rattle.cat_sound.proofs.laws.statements_keep.Goals as goal

pub returns : goal.returns
returns c = λ texts boot s named sound fit there. (statement-keeps texts boot s named sound fit there).is
