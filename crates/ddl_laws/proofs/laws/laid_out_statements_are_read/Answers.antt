use Rattle.ddl_laws.proofs.Respelled.{laid_out_read}
use Rattle.ddl_laws.proofs.laws.laid_out_statements_are_read.Goals as goal

pub returns : goal.returns
returns c = laid_out_read
