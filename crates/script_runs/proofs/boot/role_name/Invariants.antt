-- The role is among those that are left.
use Rattle.std.proofs.Common.{◌≡◌, drop}
use Rattle.cat_names.specs.Lookups.{role_name}
use Rattle.script_runs.proofs.boot.role_name.Given as goal

abbrev pub invariant-loop-role : goal.invariant-loop-role
invariant-loop-role l = role_name (drop l.role-index l.roles) l.oid ≡ role_name l.roles l.oid
