use Rattle.std.proofs.Common.{◌∷◌, [], ◌++◌, take, sym, ap, subst, ◌∙◌}
use Rattle.std.proofs.lemmas.List.{take_more}
use Rattle.std.specs.List.{AllByRecursion}
use Rattle.cat_model.specs.Trees.{Change}
use Rattle.eng_map.specs.Groups.{HasPlace}
use Rattle.eng_map.proofs.Listing.{all_placed, placed_more}
use Rattle.eng_map.proofs.groups.add_keys.Goals as goal

pub loop-change-preserved : goal.loop-change-preserved
loop-change-preserved c =
    let changes = c.args.changes.now in
    let i = c.loop-change.change-index in
    let item = c.change-item.result in
    let before = c.loop-change.groups in
    let after = c.add_key.new.groups in
    record {
      kept = λ g k h. c.in_ok-add_key.ensures.kept g k (c.loop-change.invariant.kept g k h);
      placed = subst (AllByRecursion (λ (d : Change). HasPlace after d.0)) (ap (λ (x : Change). take i changes ++ x ∷ []) c.change-item.is ∙ sym (take_more changes i item c.loop-change-test.true))
          (placed_more after (take i changes) item (all_placed before after (take i changes) c.in_ok-add_key.ensures.kept c.loop-change.invariant.placed) c.in_ok-add_key.ensures.placed);
    }
