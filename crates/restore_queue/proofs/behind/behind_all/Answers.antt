use Rattle.std.proofs.Common.{◌≡◌, ℕ, true, List, sym, subst, ◌∙◌}
use Rattle.restore_plan.specs.Entries.{is_among}
use Rattle.restore_queue.proofs.Listing.{listed-on}
use Rattle.restore_queue.proofs.behind.behind_all.Goals as goal

pub loop-i-preserved : goal.loop-i-preserved
loop-i-preserved c =
    let inv = c.loop-i.invariant in
    let said = c.in_ok-add_places.ensures in
    record {
      len = said.len ∙ inv.len;
      listed = listed-on c.args.waits.now c.loop-i.behind.items c.add_places.new.behind.items c.loop-i.i c.index-waits-i.result c.index-waits-i.is inv.listed said.kept
          (λ j h. said.added j (subst (λ (ys : List ℕ). is_among j ys ≡ true) (sym c.as_slice.ensures.value) h));
    }
