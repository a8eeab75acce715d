use Rattle.cat_model.specs.declared.key.Key.TheVariants as key
use Rattle.sound_loads.proofs.Rows.{rows_sound}
use Rattle.sound_loads.proofs.Standing.{origin}
use Rattle.sound_loads.proofs.laws.loaded_rows_are_in_order.Goals as goal

pub returns : goal.returns
returns c = λ texts cat rows q v well fit is. rows_sound texts cat rows well fit q v (origin cat rows (key.Rows q) v is)
