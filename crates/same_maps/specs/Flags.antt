-- Those of a role's attributes that it has or hasn't.
use Rattle.std.specs.Prelude.{Bool, List, [], ◌∷◌}
use Rattle.cat_model.specs.declared.value.Role.{Role}

abbrev pub role_flags : Role → List Bool
role_flags r = r.superuser ∷ r.inherit ∷ r.create_role ∷ r.create_db ∷ r.login ∷ r.replication ∷ r.bypass_rls ∷ []
