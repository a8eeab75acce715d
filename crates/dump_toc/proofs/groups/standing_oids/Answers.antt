use Rattle.std.proofs.Common.{arith}
use Rattle.dump_toc.proofs.Standing.{standing_more, standing_all}
use Rattle.dump_toc.proofs.groups.standing_oids.Goals as goal

pub loop-object-preserved : goal.loop-object-preserved
loop-object-preserved c = standing_more _ _ c.args.objects.now c.loop-object.object-index c.object-item.result c.loop-object.invariant c.in_ok-keep_standing.ensures c.loop-object-test.true c.object-item.is

pub returns : goal.returns
returns c = standing_all _ c.args.objects.now c.loop-object.object-index c.loop-object.invariant (omega (arith, c.loop-object-test.false))
