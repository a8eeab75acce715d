use Rattle.cat_model.specs.declared.key.Key.TheVariants as key
use Rattle.cat_model.specs.declared.object.Object.TheVariants as object
use Rattle.sound_loads.proofs.Standing.{origin}
use Rattle.sound_loads.proofs.Cluster.{database_sound, database_owner_sound}
use Rattle.sound_loads.proofs.laws.loaded_databases_are_in_order.Goals as goal

pub returns-clause-databases : goal.returns-clause-databases
returns-clause-databases c = λ texts name cat rows v well is. database_sound texts cat rows well name v (origin cat rows (key.Database name) v is)

pub returns-clause-owners : goal.returns-clause-owners
returns-clause-owners c = λ texts name cat rows v well is. database_owner_sound texts cat rows well name v (origin cat rows (key.Owner (object.Database name)) v is)
