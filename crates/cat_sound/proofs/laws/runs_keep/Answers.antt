use Rattle.cat_sound.proofs.Statements.{run-keeps}
use Rattle.cat_sound.proofs.laws.runs_keep.Goals as goal

pub returns : goal.returns
returns c = run-keeps
