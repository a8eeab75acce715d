use Rattle.std.proofs.Common.{refl}
use Rattle.named_tables.proofs.Roles.{roles_meet}
use Rattle.named_tables.proofs.laws.roles_meet_their_table.Goals as goal

pub returns : goal.returns
returns c = λ texts named oids current cat sound own started are. roles_meet texts named sound oids own cat.pg_authid are.roles current cat refl started
