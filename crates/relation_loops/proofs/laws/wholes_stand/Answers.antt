use Rattle.relation_loops.proofs.Wholes.{types_stand, relations_stand}
use Rattle.relation_loops.proofs.laws.wholes_stand.Goals as goal

pub returns-clause-types : goal.returns-clause-types
returns-clause-types c = λ texts named oids rows sound own said. types_stand texts named sound oids own rows said

pub returns-clause-relations : goal.returns-clause-relations
returns-clause-relations c = λ texts named oids rows sound own said. relations_stand texts named sound oids own rows said
