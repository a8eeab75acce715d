use Rattle.std.proofs.Common.{option_map, arith}
use Rattle.dump_grants.specs.Holders.{role_item}
use Rattle.dump_grants.specs.Seen.{role_seen}
use Rattle.dump_grants.proofs.Roles.{given_more, given_all}
use Rattle.dump_grants.proofs.items.roles_listed.Goals as goal

pub loop-item-preserved : goal.loop-item-preserved
loop-item-preserved c = given_more (role_item c.args.owner.now) _ _ (option_map role_seen c.role_item.result) c.args.items.now c.loop-item.item-index c.item-item.result c.loop-item.invariant c.in_ok-push_role.ensures c.role_item.ensures c.loop-item-test.true c.item-item.is

pub returns : goal.returns
returns c = given_all (role_item c.args.owner.now) _ c.args.items.now c.loop-item.item-index c.loop-item.invariant (omega (arith, c.loop-item-test.false))
