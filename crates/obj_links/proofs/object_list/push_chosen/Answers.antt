use Rattle.std.proofs.Common.{arith}
use Rattle.obj_beside.proofs.Rows.{some_none, some_more, some_all}
use Rattle.obj_links.proofs.object_list.push_chosen.Goals as goal

pub loop-row-init : goal.loop-row-init
loop-row-init g c = some_none (g.C.Chosen.chosen c.args.beside.now c.args.select.now) c.args.objects.now.items c.args.rows.now

pub loop-row-preserved : goal.loop-row-preserved
loop-row-preserved g c =
    some_more (g.C.Chosen.chosen c.args.beside.now c.args.select.now) c.args.objects.now.items _ _ _ c.args.rows.now c.loop-row.row-index c.row-item.result c.loop-row.invariant c.in_ok-push_some.ensures c.in_ok-object.ensures c.loop-row-test.true c.row-item.is

pub returns : goal.returns
returns g c = some_all (g.C.Chosen.chosen c.args.beside.now c.args.select.now) c.args.objects.now.items _ c.args.rows.now c.loop-row.row-index c.loop-row.invariant (omega (arith, c.loop-row-test.false))
