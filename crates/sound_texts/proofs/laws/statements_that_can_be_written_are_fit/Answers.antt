use Rattle.sound_texts.proofs.Writable.{writable_fit}
use Rattle.sound_texts.proofs.laws.statements_that_can_be_written_are_fit.Goals as goal

pub returns : goal.returns
returns c = writable_fit
