use Rattle.ddl_laws.proofs.Respelled.{writable_is_spelled}
use Rattle.ddl_laws.proofs.laws.what_can_be_written_is_spelled.Goals as goal

pub returns : goal.returns
returns c = writable_is_spelled
