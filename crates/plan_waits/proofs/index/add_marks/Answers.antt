use Rattle.std.proofs.Common.{◌≡◌, true, ◌∷◌, [], ◌++◌, take, sym, ap, subst, ◌∙◌}
use Rattle.std.proofs.lemmas.List.{take_more}
use Rattle.std.specs.List.{AllByRecursion}
use Rattle.cat_model.specs.declared.class.Mark.{Mark}
use Rattle.plan_waits.specs.Buckets.{bucket, is_listed}
use Rattle.plan_waits.proofs.Listing.{all_listed, listed_more}
use Rattle.plan_waits.proofs.index.add_marks.Goals as goal

pub loop-mark-preserved : goal.loop-mark-preserved
loop-mark-preserved c =
    let marks = c.args.marks.now in
    let i = c.loop-mark.mark-index in
    let item = c.mark-item.result in
    let old = c.loop-mark.index in
    let new = c.add_mark.new.index in
    record {
      kept = λ k q h. c.in_ok-add_mark.ensures.kept k q (c.loop-mark.invariant.kept k q h);
      added = subst (AllByRecursion (λ (m : Mark). is_listed new (bucket m) c.args.place ≡ true)) (ap (λ (x : Mark). take i marks ++ x ∷ []) c.mark-item.is ∙ sym (take_more marks i item c.loop-mark-test.true))
          (listed_more new c.args.place (take i marks) item (all_listed old new c.args.place (take i marks) c.in_ok-add_mark.ensures.kept c.loop-mark.invariant.added) c.in_ok-add_mark.ensures.added);
    }
