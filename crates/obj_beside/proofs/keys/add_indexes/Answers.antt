use Rattle.std.proofs.Common.{arith}
use Rattle.obj_graph.specs.ConstraintLinks.{key_index}
use Rattle.obj_beside.proofs.Rows.{some_none, some_more, some_all}
use Rattle.obj_beside.proofs.keys.add_indexes.Goals as goal

pub loop-row-init : goal.loop-row-init
loop-row-init c = some_none key_index c.args.keys.now.items c.args.rows.now

pub loop-row-preserved : goal.loop-row-preserved
loop-row-preserved c =
    some_more key_index c.args.keys.now.items _ _ _ c.args.rows.now c.loop-row.row-index c.row-item.result c.loop-row.invariant c.in_ok-push_key.ensures c.in_ok-key.ensures c.loop-row-test.true c.row-item.is

pub returns : goal.returns
returns c = some_all key_index c.args.keys.now.items _ c.args.rows.now c.loop-row.row-index c.loop-row.invariant (omega (arith, c.loop-row-test.false))
