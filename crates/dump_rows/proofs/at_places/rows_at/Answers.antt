use Rattle.std.proofs.Common.{option_map, arith}
use Rattle.std.specs.List.{slice_get}
use Rattle.dump_rows.proofs.Found.{place_more, places_all}
use Rattle.dump_rows.proofs.at_places.rows_at.Goals as goal

pub loop-place-preserved : goal.loop-place-preserved
loop-place-preserved g c =
    place_more (slice_get c.args.rows.now) _ _ (option_map (λ r. r.now) c.row_of.result) c.args.places.now c.loop-place.place-index _ c.loop-place.invariant c.in_ok-push_some.ensures c.row_of.ensures c.loop-place-test.true

pub returns : goal.returns
returns g c = places_all (slice_get c.args.rows.now) _ c.args.places.now c.loop-place.place-index c.loop-place.invariant (omega (arith, c.loop-place-test.false))
