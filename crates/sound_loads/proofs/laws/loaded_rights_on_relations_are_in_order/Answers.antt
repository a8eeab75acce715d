use Rattle.cat_model.specs.declared.key.Key.TheVariants as key
use Rattle.cat_model.specs.declared.object.Object.TheVariants as object
use Rattle.sound_loads.proofs.Standing.{origin}
use Rattle.sound_loads.proofs.Relations.{relation_owner_sound, relation_grants_sound}
use Rattle.sound_loads.proofs.laws.loaded_rights_on_relations_are_in_order.Goals as goal

pub returns-clause-owners : goal.returns-clause-owners
returns-clause-owners c = λ texts q cat rows v well is. relation_owner_sound texts cat rows well q v (origin cat rows (key.Owner (object.Relation q)) v is)

pub returns-clause-grants : goal.returns-clause-grants
returns-clause-grants c = λ texts q cat rows v well is. relation_grants_sound texts cat rows well q v (origin cat rows (key.Acl (object.Relation q)) v is)
