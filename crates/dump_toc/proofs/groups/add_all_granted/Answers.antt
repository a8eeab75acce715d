use Rattle.std.proofs.Common.{◌++◌, arith}
use Rattle.std.specs.List.{filter_map}
use Rattle.dump_toc.specs.Toc.{granted_at}
use Rattle.dump_toc.proofs.Placed.{some_placed, all_placed}
use Rattle.dump_toc.proofs.groups.add_all_granted.Goals as goal

pub loop-place-preserved : goal.loop-place-preserved
loop-place-preserved c =
    some_placed (granted_at c.args.rows.now c.args.select.now) c.args.drafts.now.items _ _ c.args.objects.now c.loop-place.place c.index-objects-place.result _ c.loop-place.invariant c.in_ok-add_granted_at.ensures c.loop-place-test.true c.index-objects-place.is

pub returns : goal.returns
returns c = all_placed (λ es. c.args.drafts.now.items ++ filter_map (granted_at c.args.rows.now c.args.select.now) es) _ c.args.objects.now c.loop-place.place c.loop-place.invariant (omega (arith, c.loop-place-test.false))
