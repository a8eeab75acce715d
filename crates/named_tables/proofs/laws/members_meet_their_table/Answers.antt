use Rattle.named_tables.proofs.Members.{members_meet}
use Rattle.named_tables.proofs.laws.members_meet_their_table.Goals as goal

pub returns : goal.returns
returns c = λ texts named oids current cat sound own are. members_meet texts named sound oids own cat are.roles are.members
