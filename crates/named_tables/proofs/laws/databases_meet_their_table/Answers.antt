use Rattle.named_tables.proofs.Databases.{databases_meet}
use Rattle.named_tables.proofs.laws.databases_meet_their_table.Goals as goal

pub returns : goal.returns
returns c = λ texts named oids current cat sound own started are. databases_meet texts named sound oids own current cat are.roles are.databases started
