use Rattle.std.proofs.Common.{◌-◌, ◌<◌, ◌≤◌, length, get_or, ◌∙◌, arith}
use Rattle.std.proofs.lemmas.List.{length-set}
use Rattle.dep_sort.proofs.Ranks.{ranks_more, standing_all}
use Rattle.dep_sort.proofs.cut_graph.ranks.Goals as goal

pub loop-at-preserved : goal.loop-at-preserved
loop-at-preserved c =
    let some : 0 < c.loop-at.at = c.loop-at-test.true in
    let le : c.loop-at.at ≤ length c.args.places.now = c.loop-at.invariant.within in
    record {
      count = length-set c.loop-at.ranks.items (get_or c.args.places.now (c.loop-at.at - 1) 0) (c.loop-at.at - 1) ∙ c.loop-at.invariant.count;
      each = ranks_more c.args.places.now c.loop-at.ranks.items c.loop-at.at some le c.loop-at.invariant.count (c.requires (c.loop-at.at - 1) 0 (omega arith)) c.loop-at.invariant.each;
      within = omega arith;
    }

pub returns-clause-each : goal.returns-clause-each
returns-clause-each c =
    λ p low. c.loop-at.invariant.each p low ∙ standing_all c.args.places.now c.loop-at.at p c.loop-at-test.false
