use Rattle.graph_walks.proofs.Standings.{closed_more}
use Rattle.graph_walks.proofs.components.close_places.Goals as goal

pub loop-place-preserved : goal.loop-place-preserved
loop-place-preserved c =
    closed_more c.args.places.now c.loop-place.place-index c.args.mark _ _ _ _ c.loop-place-test.true (c.requires.within c.loop-place.place-index 0 c.loop-place-test.true) c.requires.marks (c.requires.come c.loop-place.place-index 0 c.loop-place-test.true) c.loop-place.invariant
