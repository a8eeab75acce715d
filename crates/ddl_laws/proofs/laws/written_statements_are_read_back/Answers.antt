use Rattle.ddl_laws.proofs.Respelled.{joined_read}
use Rattle.ddl_laws.proofs.laws.written_statements_are_read_back.Goals as goal

pub returns : goal.returns
returns c = joined_read
