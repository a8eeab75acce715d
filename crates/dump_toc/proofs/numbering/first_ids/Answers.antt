use Rattle.std.proofs.Common.{◌+◌, ◌++◌, drop, refl, ap, ◌∙◌, arith}
use Rattle.dump_toc.specs.Numbers.{first_ids}
use Rattle.dump_toc.proofs.Numbered.{ids_more, ids_all}
use Rattle.dump_toc.proofs.numbering.first_ids.Goals as goal

pub loop-count-preserved : goal.loop-count-preserved
loop-count-preserved c =
    ap (λ n. c.push_first.new.ids.items ++ first_ids n (drop (c.loop-count.count-index + 1) c.args.counts.now)) c.in_ok-after.ensures.behind
    ∙ ids_more _ c.loop-count.ids.items c.push_first.new.ids.items c.loop-count.next _ c.args.counts.now c.loop-count.count-index 0 c.loop-count.invariant c.in_ok-after.ensures.pushed c.loop-count-test.true refl

pub returns : goal.returns
returns c = ids_all _ c.loop-count.ids.items c.loop-count.next c.args.counts.now c.loop-count.count-index c.loop-count.invariant (omega (arith, c.loop-count-test.false))
