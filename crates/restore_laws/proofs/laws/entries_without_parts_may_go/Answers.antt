use Rattle.restore_laws.proofs.Chosen.{may_go}
use Rattle.restore_laws.proofs.laws.entries_without_parts_may_go.Goals as goal

pub returns : goal.returns
returns c = may_go
