use Rattle.restore_turns.proofs.Taking.{at-end, only-at-end}
use Rattle.restore_turns.proofs.laws.finished_exactly_at_the_end.Goals as goal

pub returns : goal.returns
returns c = λ worker s. (only-at-end worker s, at-end worker s)
