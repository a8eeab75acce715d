use Rattle.std.proofs.Common.{◌≡◌, true, ◌∷◌, [], ◌++◌, take, sym, ap, subst, ◌∙◌}
use Rattle.std.proofs.lemmas.List.{take_more}
use Rattle.plan_waits.specs.Buckets.{Covers, has}
use Rattle.plan_waits.proofs.Meeting.{covers_more}
use Rattle.plan_waits.proofs.finding.put_places.Goals as goal

pub loop-place-preserved : goal.loop-place-preserved
loop-place-preserved c =
    let plan = c.args.plan.now in
    let places = c.args.places.now in
    let i = c.loop-place.place-index in
    let old = c.loop-place.found in
    let new = c.put_place.new.found in
    record {
      kept = λ q h. c.in_ok-put_place.ensures.kept q (c.loop-place.invariant.kept q h);
      sound = c.in_ok-put_place.ensures.sound;
      covers = rw (take_more places i 0 c.loop-place-test.true) (covers_more plan c.args.j old new (take i places) _ c.in_ok-put_place.ensures.kept c.loop-place.invariant.covers c.in_ok-put_place.ensures.put);
    }
