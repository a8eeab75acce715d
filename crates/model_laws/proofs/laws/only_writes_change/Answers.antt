use Rattle.model_laws.proofs.Exchange.{unwritten}
use Rattle.model_laws.proofs.laws.only_writes_change.Goals as goal

pub returns : goal.returns
returns c = unwritten
