use Rattle.opening_ids.proofs.Kept.{roles_keep, databases_keep, schemas_keep}
use Rattle.opening_ids.proofs.laws.oids_are_kept.Goals as goal

pub returns-clause-roles : goal.returns-clause-roles
returns-clause-roles c = λ cat i row meets at. roles_keep cat i row meets at

pub returns-clause-databases : goal.returns-clause-databases
returns-clause-databases c = λ cat i row meets at. databases_keep cat i row meets at

pub returns-clause-schemas : goal.returns-clause-schemas
returns-clause-schemas c = λ cat i row meets at. schemas_keep cat i row meets at
