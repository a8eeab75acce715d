use Rattle.restore_runs.proofs.FirstStop.{stops_at_first}
use Rattle.restore_runs.proofs.laws.restores_stop_at_the_first_error.Goals as goal

pub returns : goal.returns
returns c = record {
  at = λ boot named plan. (stops_at_first boot named plan).0;
  left = λ boot named plan. (stops_at_first boot named plan).1;
}
