use Rattle.cat_same.proofs.Differences.{one_verdict}
use Rattle.cat_same.proofs.laws.verdicts_are_unique.Goals as goal

pub returns : goal.returns
returns c = one_verdict
