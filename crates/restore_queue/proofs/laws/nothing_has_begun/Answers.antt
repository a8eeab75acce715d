use Rattle.restore_queue.proofs.Begun.{begun}
use Rattle.restore_queue.proofs.laws.nothing_has_begun.Goals as goal

pub returns : goal.returns
returns c = begun
