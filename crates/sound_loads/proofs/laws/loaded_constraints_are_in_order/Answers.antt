use Rattle.cat_model.specs.declared.key.Key.TheVariants as key
use Rattle.sound_loads.proofs.Constraints.{constraint_sound, index_sound}
use Rattle.sound_loads.proofs.Standing.{origin}
use Rattle.sound_loads.proofs.laws.loaded_constraints_are_in_order.Goals as goal

pub returns-clause-constraints : goal.returns-clause-constraints
returns-clause-constraints c = λ texts reads q name cat rows v well is. constraint_sound texts cat rows well reads q name v (origin cat rows (key.Con q name) v is)

pub returns-clause-indexes : goal.returns-clause-indexes
returns-clause-indexes c = λ texts reads q name cat rows v well is. index_sound texts cat rows well reads q name v (origin cat rows (key.Index q name) v is)
