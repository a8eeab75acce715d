use Rattle.ddl_laws.proofs.Respelled.{read_is_writable}
use Rattle.ddl_laws.proofs.laws.what_was_read_can_be_written.Goals as goal

pub returns : goal.returns
returns c = read_is_writable
