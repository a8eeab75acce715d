-- The roles so far.
use Rattle.std.proofs.Common.{◌≡◌, map, filter_map, take}
use Rattle.dump_grants.specs.Holders.{role_item}
use Rattle.dump_grants.specs.Seen.{role_seen}
use Rattle.dump_grants.proofs.items.roles_listed.Given as goal

abbrev pub invariant-loop-item : goal.invariant-loop-item
invariant-loop-item l = map role_seen l.roles.items ≡ filter_map (role_item l.owner) (take l.item-index l.items)
