use Rattle.opening_laws.proofs.Giving.{relation_of, relations_keep, types_keep}
use Rattle.opening_laws.proofs.laws.relations_and_types_keep_oids.Goals as goal

pub returns-clause-relations : goal.returns-clause-relations
returns-clause-relations c = λ cat r q well among path. relations_keep cat well r q among path

pub returns-clause-types : goal.returns-clause-types
returns-clause-types c = λ cat r q well among path. types_keep cat well r q among path

pub returns-clause-rows : goal.returns-clause-rows
returns-clause-rows c = λ cat q oid at. let it = relation_of cat q oid at in (it.row, it.among, it.path, it.same)
