use Rattle.std.proofs.Common.{◌≡◌, ℕ, ◌+◌, ◌<◌, ◌≤◌, get_or, take, arith, ◌∙◌}
use Rattle.std.proofs.lemmas.List.{length-set, get_or_default}
use Rattle.graph_walks.specs.Counting.{ending}
use Rattle.graph_walks.proofs.Counted.{ending_below, counted_more}
use Rattle.graph_walks.proofs.filling.count_ends.Goals as goal

pub overflow_add-index_mut : goal.overflow_add-index_mut
overflow_add-index_mut c =
    let k : ℕ = c.loop-arc.arc-index in
    let e : ℕ = (get_or c.all-arc-items.result.now k (0, 0)).1 in
    let low : e < c.args.arcs.now.count = (c.all-arc-items.ensures.within k (0, 0) c.loop-arc-test.true).1 in
    let is : get_or c.loop-arc.counts.items e 0 ≡ ending (take k c.all-arc-items.result.now) e = c.loop-arc.invariant.each e low in
    let same : c.index_mut.result.now ≡ get_or c.loop-arc.counts.items e 0 = c.index_mut.ensures.value ∙ get_or_default c.loop-arc.counts.items e c.index_mut.result.now 0 (omega arith) in
    let small : ending (take k c.all-arc-items.result.now) e ≤ k = ending_below c.all-arc-items.result.now k e (omega arith) in
    omega arith

pub loop-arc-preserved : goal.loop-arc-preserved
loop-arc-preserved c =
    let k : ℕ = c.loop-arc.arc-index in
    let e : ℕ = (get_or c.all-arc-items.result.now k (0, 0)).1 in
    let low : e < c.args.arcs.now.count = (c.all-arc-items.ensures.within k (0, 0) c.loop-arc-test.true).1 in
    let same : c.index_mut.result.now ≡ get_or c.loop-arc.counts.items e 0 = c.index_mut.ensures.value ∙ get_or_default c.loop-arc.counts.items e c.index_mut.result.now 0 (omega arith) in
    record {
      count = length-set c.loop-arc.counts.items e (c.index_mut.result.now + 1) ∙ c.loop-arc.invariant.count;
      each = counted_more c.loop-arc.counts.items c.all-arc-items.result.now k c.args.arcs.now.count c.index_mut.result.now c.loop-arc-test.true c.loop-arc.invariant.count low c.loop-arc.invariant.each same;
    }
