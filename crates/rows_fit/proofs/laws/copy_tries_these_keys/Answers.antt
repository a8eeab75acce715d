use Rattle.rows_fit.proofs.KeyLaws.{uniques_tried, parents_tried}
use Rattle.rows_fit.proofs.laws.copy_tries_these_keys.Goals as goal

pub returns-clause-unique : goal.returns-clause-unique
returns-clause-unique c = uniques_tried

pub returns-clause-parents : goal.returns-clause-parents
returns-clause-parents c = parents_tried
