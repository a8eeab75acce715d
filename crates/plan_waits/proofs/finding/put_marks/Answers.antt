use Rattle.std.proofs.Common.{◌≡◌, true, ◌∷◌, [], ◌++◌, take, sym, ap, subst, ◌∙◌}
use Rattle.std.proofs.lemmas.List.{take_more}
use Rattle.std.specs.List.{AllByRecursion}
use Rattle.cat_model.specs.declared.class.Mark.{Mark}
use Rattle.plan_waits.specs.Buckets.{Covers, bucket, is_listed}
use Rattle.plan_waits.proofs.Meeting.{all_cover, cover_more}
use Rattle.plan_waits.proofs.finding.put_marks.Goals as goal

pub loop-mark-preserved : goal.loop-mark-preserved
loop-mark-preserved c =
    let plan = c.args.plan.now in
    let marks = c.args.marks.now in
    let i = c.loop-mark.mark-index in
    let item = c.mark-item.result in
    let old = c.loop-mark.found in
    let new = c.put_mark.new.found in
    let among = λ (m : Mark). is_listed c.args.index.now (bucket m) in
    record {
      kept = λ q h. c.in_ok-put_mark.ensures.kept q (c.loop-mark.invariant.kept q h);
      sound = c.in_ok-put_mark.ensures.sound;
      covers = subst (AllByRecursion (λ (m : Mark). Covers plan c.args.j new (among m))) (ap (λ (x : Mark). take i marks ++ x ∷ []) c.mark-item.is ∙ sym (take_more marks i item c.loop-mark-test.true))
          (cover_more plan c.args.j new among (take i marks) item (all_cover plan c.args.j old new among (take i marks) c.in_ok-put_mark.ensures.kept c.loop-mark.invariant.covers) c.in_ok-put_mark.ensures.covers);
    }
