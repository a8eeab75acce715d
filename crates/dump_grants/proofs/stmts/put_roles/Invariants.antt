-- What the roles so far need stands behind what was there.
use Rattle.std.proofs.Common.{◌≡◌, ◌++◌, map, take}
use Rattle.dump_grants.specs.Seen.{role_seen}
use Rattle.dump_grants.specs.Stmts.{role_stmts, texts}
use Rattle.dump_grants.proofs.stmts.put_roles.Given as goal

abbrev pub invariant-loop-role : goal.invariant-loop-role
invariant-loop-role l = l.out.items ≡ l.fn.out.items ++ texts (role_stmts l.object (map role_seen (take l.role-index l.roles)))
