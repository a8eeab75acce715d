use Rattle.grant_laws.proofs.Given.{grants_can}
use Rattle.grant_laws.proofs.laws.grants_can_be_written.Goals as goal

pub returns : goal.returns
returns c = grants_can
