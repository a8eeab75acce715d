use Rattle.cat_model.specs.declared.key.Key.TheVariants as key
use Rattle.sound_loads.proofs.Standing.{origin}
use Rattle.sound_loads.proofs.Relations.{sequence_value_sound}
use Rattle.sound_loads.proofs.laws.loaded_values_of_sequences_are_in_order.Goals as goal

pub returns : goal.returns
returns c = λ texts q cat rows v well is. sequence_value_sound texts cat rows well q v (origin cat rows (key.SeqVal q) v is)
