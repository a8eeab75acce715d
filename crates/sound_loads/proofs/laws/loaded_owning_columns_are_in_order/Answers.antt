use Rattle.cat_model.specs.declared.key.Key.TheVariants as key
use Rattle.sound_loads.proofs.Tables.{owning_sound}
use Rattle.sound_loads.proofs.Standing.{origin}
use Rattle.sound_loads.proofs.laws.loaded_owning_columns_are_in_order.Goals as goal

pub returns : goal.returns
returns c = λ texts q cat rows v well is. owning_sound texts cat rows well q v (origin cat rows (key.OwnedBy q) v is)
