use Rattle.model_laws.proofs.Exchange.{outcome_stays, within_stays, next-commute}
use Rattle.model_laws.proofs.laws.trees_change_places.Goals as goal

pub returns : goal.returns
returns c = record { says = outcome_stays; within = within_stays; leaves = next-commute }
