use Rattle.cat_sound.proofs.Statements.{statement-keeps}
use Rattle.cat_sound.proofs.laws.statements_leave_what_is_there.Goals as goal

pub returns : goal.returns
returns c = λ texts boot s named k sound fit boot_there apart met. (statement-keeps texts boot s named sound fit boot_there).stays k apart met
