use Rattle.std.proofs.Common.{◌≡◌, ℕ, true, List, get_or, take, subst, ◌∙◌}
use Rattle.std.proofs.lemmas.List.{take_more}
use Rattle.restore_plan.specs.Entries.{is_among}
use Rattle.restore_queue.proofs.Listing.{added-on}
use Rattle.restore_queue.proofs.behind.add_places.Goals as goal

pub loop-j-preserved : goal.loop-j-preserved
loop-j-preserved c =
    let xs = c.args.places.now in
    let k = c.loop-j.j-index in
    let inv = c.loop-j.invariant in
    let said = c.in_ok-add_behind.ensures in
    record {
      kept = λ n q h. said.kept n q (inv.kept n q h);
      added = λ q h. added-on c.loop-j.behind.items c.add_behind.new.behind.items (take k xs) (get_or xs k 0) c.args.i inv.added said.kept said.added q (subst (λ (ys : List ℕ). is_among q ys ≡ true) (take_more xs k 0 c.loop-j-test.true) h);
      len = said.len ∙ inv.len;
    }
