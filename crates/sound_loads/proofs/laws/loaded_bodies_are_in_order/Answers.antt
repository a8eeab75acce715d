use Rattle.cat_model.specs.declared.key.Key.TheVariants as key
use Rattle.sound_loads.proofs.Tables.{body_sound}
use Rattle.sound_loads.proofs.Standing.{origin}
use Rattle.sound_loads.proofs.laws.loaded_bodies_are_in_order.Goals as goal

pub returns : goal.returns
returns c = λ texts reads q cat rows v well is. body_sound texts cat rows well reads q v (origin cat rows (key.Body q) v is)
