use Rattle.entry_choices.proofs.Behind.{wanted_here}
use Rattle.entry_choices.proofs.single.wanted.Goals as goal

pub returns : goal.returns
returns c =
    wanted_here c.args.options.now c.args.entries.now c.args.index c.index-entries-index.result c.is_taken_behind.result c.requires c.index-entries-index.is c.is_taken_behind.ensures
