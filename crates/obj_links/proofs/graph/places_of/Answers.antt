use Rattle.std.proofs.Common.{take, sym, subst}
use Rattle.obj_beside.specs.Firsts.{AreFirsts}
use Rattle.obj_graph.specs.Graphs.{numbered}
use Rattle.obj_graph.specs.Ids.{id_cmp}
use Rattle.obj_links.proofs.Edges.{numbered_more}
use Rattle.obj_links.proofs.graph.places_of.Goals as goal

pub loop-place-preserved : goal.loop-place-preserved
loop-place-preserved c =
    let objects = c.args.objects.now in
    let i = c.loop-place.place in
    subst (AreFirsts id_cmp c.add_first.new.firsts) (sym (numbered_more objects i c.index-objects-place.result c.loop-place-test.true c.index-objects-place.is)) (c.in_ok-add_first.ensures (numbered (take i objects)) c.loop-place.invariant)
