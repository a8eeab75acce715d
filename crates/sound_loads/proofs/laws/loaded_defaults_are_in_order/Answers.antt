use Rattle.cat_model.specs.declared.key.Key.TheVariants as key
use Rattle.sound_loads.proofs.Defaults.{default_sound}
use Rattle.sound_loads.proofs.Standing.{origin}
use Rattle.sound_loads.proofs.laws.loaded_defaults_are_in_order.Goals as goal

pub returns : goal.returns
returns c = λ texts reads q column cat rows v well is. default_sound texts cat rows well reads q column v (origin cat rows (key.Default q column) v is)
