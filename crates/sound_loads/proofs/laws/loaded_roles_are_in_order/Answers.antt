use Rattle.cat_model.specs.declared.key.Key.TheVariants as key
use Rattle.sound_loads.proofs.Standing.{origin}
use Rattle.sound_loads.proofs.Cluster.{role_sound, member_sound}
use Rattle.sound_loads.proofs.laws.loaded_roles_are_in_order.Goals as goal

pub returns-clause-roles : goal.returns-clause-roles
returns-clause-roles c = λ texts name cat rows v well is. role_sound texts cat rows well name v (origin cat rows (key.Role name) v is)

pub returns-clause-memberships : goal.returns-clause-memberships
returns-clause-memberships c = λ texts role member grantor cat rows v well is. member_sound texts cat rows well role member grantor v (origin cat rows (key.Member role member grantor) v is)
