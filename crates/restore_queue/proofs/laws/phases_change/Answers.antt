use Rattle.restore_queue.proofs.Meets.{marked-still, met-nearly, met-still}
use Rattle.restore_queue.proofs.laws.phases_change.Goals as goal

pub returns : goal.returns
returns c = record { ends = met-nearly; goes_on = met-still; marks = marked-still }
