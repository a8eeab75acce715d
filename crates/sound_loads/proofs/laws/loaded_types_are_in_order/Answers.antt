use Rattle.cat_model.specs.declared.key.Key.TheVariants as key
use Rattle.cat_model.specs.declared.object.Object.TheVariants as object
use Rattle.sound_loads.proofs.Defaults.{type_sound}
use Rattle.sound_loads.proofs.Tables.{type_owner_sound, type_grants_sound}
use Rattle.sound_loads.proofs.Standing.{origin}
use Rattle.sound_loads.proofs.laws.loaded_types_are_in_order.Goals as goal

pub returns-clause-types : goal.returns-clause-types
returns-clause-types c = λ texts reads q cat rows v well is. type_sound texts cat rows well reads q v (origin cat rows (key.UserType q) v is)

pub returns-clause-owners : goal.returns-clause-owners
returns-clause-owners c = λ texts q cat rows v well is. type_owner_sound texts cat rows well q v (origin cat rows (key.Owner (object.Type q)) v is)

pub returns-clause-grants : goal.returns-clause-grants
returns-clause-grants c = λ texts q cat rows v well is. type_grants_sound texts cat rows well q v (origin cat rows (key.Acl (object.Type q)) v is)
