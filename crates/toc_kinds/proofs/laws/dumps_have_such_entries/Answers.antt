use Rattle.toc_kinds.proofs.Entries.{toc_are}
use Rattle.toc_kinds.proofs.laws.dumps_have_such_entries.Goals as goal

pub returns : goal.returns
returns c = toc_are
