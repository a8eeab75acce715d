use Rattle.std.proofs.Common.{◌≡◌, ℕ, true, ◌∷◌, [], ◌++◌, take, sym, ap, subst, ◌∙◌}
use Rattle.std.proofs.lemmas.List.{take_more}
use Rattle.std.specs.List.{AllByRecursion}
use Rattle.plan_waits.specs.Buckets.{Covers, has_id}
use Rattle.plan_waits.proofs.Meeting.{all_cover, cover_more}
use Rattle.plan_waits.proofs.finding.put_ids.Goals as goal

pub loop-id-preserved : goal.loop-id-preserved
loop-id-preserved c =
    let plan = c.args.plan.now in
    let ids = c.args.deps.now in
    let i = c.loop-id.id-index in
    let old = c.loop-id.found in
    let new = c.put_id.new.found in
    let among = has_id c.args.ids.now in
    record {
      kept = λ q h. c.in_ok-put_id.ensures.kept q (c.loop-id.invariant.kept q h);
      sound = c.in_ok-put_id.ensures.sound;
      covers = rw (take_more ids i 0 c.loop-id-test.true) (cover_more plan c.args.j new among (take i ids) _ (all_cover plan c.args.j old new among (take i ids) c.in_ok-put_id.ensures.kept c.loop-id.invariant.covers) c.in_ok-put_id.ensures.covers);
    }
