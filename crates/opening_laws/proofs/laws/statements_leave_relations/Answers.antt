use Rattle.opening_laws.proofs.Leaving.{statement_leaves}
use Rattle.opening_laws.proofs.laws.statements_leave_relations.Goals as goal

pub returns : goal.returns
returns c = λ boot s named q v at. (statement_leaves boot s named).relations q v at
