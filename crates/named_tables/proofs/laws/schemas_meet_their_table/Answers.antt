use Rattle.named_tables.proofs.Schemas.{schemas_meet}
use Rattle.named_tables.proofs.laws.schemas_meet_their_table.Goals as goal

pub returns : goal.returns
returns c = λ texts named oids current cat sound own are. schemas_meet texts named sound oids own cat are.roles are.schemas
