use Rattle.sound_loads.proofs.Whole.{loaded_beside}
use Rattle.sound_loads.proofs.laws.loaded_catalogues_are_in_order_as_a_whole.Goals as goal

pub returns : goal.returns
returns c = loaded_beside
