use Rattle.rows_named.proofs.Found.{others_same, rows_found}
use Rattle.rows_named.proofs.laws.rows_stand_under_their_paths.Goals as goal

pub returns-clause-others : goal.returns-clause-others
returns-clause-others c = others_same

pub returns-clause-rows : goal.returns-clause-rows
returns-clause-rows c = rows_found
