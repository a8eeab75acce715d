use Rattle.ddl_laws.proofs.Respelled.{read_again}
use Rattle.ddl_laws.proofs.laws.statements_that_were_read_are_read_again.Goals as goal

pub returns : goal.returns
returns c = read_again
