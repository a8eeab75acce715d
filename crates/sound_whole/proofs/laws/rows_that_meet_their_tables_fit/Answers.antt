use Rattle.sound_whole.proofs.Loaded.{rows_fit}
use Rattle.sound_whole.proofs.laws.rows_that_meet_their_tables_fit.Goals as goal

pub returns : goal.returns
returns c = rows_fit
