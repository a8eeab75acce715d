use Rattle.cat_model.specs.declared.key.Key.TheVariants as key
use Rattle.cat_model.specs.declared.object.Object.TheVariants as object
use Rattle.sound_loads.proofs.Standing.{origin}
use Rattle.sound_loads.proofs.Cluster.{schema_sound, schema_owner_sound, schema_grants_sound}
use Rattle.sound_loads.proofs.laws.loaded_schemas_are_in_order.Goals as goal

pub returns-clause-schemas : goal.returns-clause-schemas
returns-clause-schemas c = λ texts name cat rows v well is. schema_sound texts cat rows well name v (origin cat rows (key.Schema name) v is)

pub returns-clause-owners : goal.returns-clause-owners
returns-clause-owners c = λ texts name cat rows v well is. schema_owner_sound texts cat rows well name v (origin cat rows (key.Owner (object.Schema name)) v is)

pub returns-clause-grants : goal.returns-clause-grants
returns-clause-grants c = λ texts name cat rows v well is. schema_grants_sound texts cat rows well name v (origin cat rows (key.Acl (object.Schema name)) v is)
