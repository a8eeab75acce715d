use Rattle.restores_sound.proofs.Entries.{entry_fit}
use Rattle.restores_sound.proofs.laws.entries_that_are_taken_are_fit.Goals as goal

pub returns : goal.returns
returns c = entry_fit
