use Rattle.std.proofs.Common.{refl}
use Rattle.script_runs.proofs.texts.current_texts.Goals as goal

pub returns-clause-unwritten : goal.returns-clause-unwritten
returns-clause-unwritten c = λ can. (refl, c.in_ok-made.ensures.left c.in-None.is)
