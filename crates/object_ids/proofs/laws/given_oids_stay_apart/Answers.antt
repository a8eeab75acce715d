use Rattle.object_ids.proofs.Given.{given_apart}
use Rattle.object_ids.proofs.laws.given_oids_stay_apart.Goals as goal

pub returns : goal.returns
returns c = λ i s oid apart. given_apart i s oid apart
