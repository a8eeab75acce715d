use Rattle.restore_input.specs.Answers.{texts_seen}
use Rattle.restore_folders.proofs.Ready.{entries_fit}
use Rattle.restore_folders.proofs.reading.wanted_of.Goals as goal

pub returns-in-Ok-clause-fit : goal.returns-in-Ok-clause-fit
returns-in-Ok-clause-fit c = entries_fit c.args.owners c.args.entries.now (texts_seen c.args.texts.items) c.in-Ok.wanted.items c.in-Ok.ensures
