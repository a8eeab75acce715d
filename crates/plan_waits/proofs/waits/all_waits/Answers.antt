use Rattle.std.proofs.Common.{◌≡◌, ◌+◌, ◌<◌, ℕ, List, length, sym, ap, subst, ◌∙◌, arith}
use Rattle.std.proofs.lemmas.List.{length_push}
use Rattle.plan_waits.specs.Buckets.{AreWaits, IsAt}
use borrow.Author.Count.{below_more}
use Rattle.plan_waits.proofs.Meeting.{waits_more}
use Rattle.plan_waits.proofs.waits.all_waits.Goals as goal

pub loop-j-preserved : goal.loop-j-preserved
loop-j-preserved c =
    let plan = c.args.plan.now in
    let j = c.loop-j.j in
    let inv = c.loop-j.invariant in
    let sets = c.loop-j.waits.items in
    let found = c.in_ok-waits_of.field-0 in
    let n = c.list_entry.new.listed in
    let here : j ≡ 0 + length sets = omega (arith, inv.len) in
    record {
      len = ap length c.in_ok-push.ensures.items ∙ length_push sets found ∙ ap (λ (k : ℕ). k + 1) inv.len;
      each = subst (AreWaits plan 0) (sym c.in_ok-push.ensures.items) (waits_more plan 0 sets found j here inv.each c.in_ok-waits_of.ensures);
      earlier = below_more (IsAt n.ids n.writers n.readers plan) j (λ i less. c.in_ok-list_entry.ensures.kept i (inv.earlier i less)) c.in_ok-list_entry.ensures.added;
    }
