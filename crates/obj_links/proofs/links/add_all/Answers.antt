use Rattle.std.proofs.Common.{arith}
use Rattle.obj_beside.proofs.Rows.{lists_none, lists_more, lists_all}
use Rattle.obj_links.proofs.links.add_all.Goals as goal

pub loop-one-init : goal.loop-one-init
loop-one-init g c = lists_none (g.L.Linked.links c.args.beside.now) c.args.out.now.items c.args.all.now

pub loop-one-preserved : goal.loop-one-preserved
loop-one-preserved g c =
    lists_more (g.L.Linked.links c.args.beside.now) c.args.out.now.items _ _ c.args.all.now c.loop-one.one-index c.one-item.result c.loop-one.invariant c.in_ok-add_links.ensures c.loop-one-test.true c.one-item.is

pub returns : goal.returns
returns g c = lists_all (g.L.Linked.links c.args.beside.now) c.args.out.now.items _ c.args.all.now c.loop-one.one-index c.loop-one.invariant (omega (arith, c.loop-one-test.false))
