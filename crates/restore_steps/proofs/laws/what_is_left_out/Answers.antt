use Rattle.std.proofs.Common.{refl}
use Rattle.restore_steps.specs.Faults.{left_out}
use Rattle.restore_steps.proofs.laws.what_is_left_out.Goals as goal

pub returns : goal.returns
unfolding left_out
returns c = record { taken = refl; no_tablespace = refl; tablespace = refl; kind = refl; kind_first = refl; properties = refl }
