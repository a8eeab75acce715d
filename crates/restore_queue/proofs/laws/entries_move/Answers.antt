use Rattle.restore_queue.proofs.Moves.{ended, gone-on, skipped, started}
use Rattle.restore_queue.proofs.laws.entries_move.Goals as goal

pub returns : goal.returns
returns c = record { starts = started; goes_on = gone-on; ends = ended; skips = skipped }
