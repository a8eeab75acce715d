use Rattle.sound_loads.proofs.Standing.{origin}
use Rattle.sound_loads.proofs.laws.keys_stand_for_rows.Goals as goal

pub returns : goal.returns
returns c = origin
