-- The key stands behind the next one too, or before it.
use Rattle.std.proofs.Common.{◌≡◌, ◌<◌, true, false, not, length, sym, ◌∙◌, arith}
use Rattle.std.specs.Ordering.{is_gt}
use Rattle.cat_model.specs.Values.{bytes_cmp}
use Rattle.rows_fit.proofs.Placing.{behind, here, at_end, not_true, not_false}
use Rattle.rows_fit.proofs.key_order.place_in.Goals as goal

pub returns-then-stands_before-clause-place : goal.returns-then-stands_before-clause-place
returns-then-stands_before-clause-place c =
    let u = c.args.key.now in
    let v = c.index-sorted-i.result in
    let below : c.loop-i.i < length c.args.sorted.now = omega arith in
    let other : is_gt (bytes_cmp u.0 v.0) ≡ false =
    not_true (is_gt (bytes_cmp u.0 v.0)) ((λ j. not (is_gt (bytes_cmp (sym c.name.ensures j) (sym c.name-in-loop-i.ensures j)))) ∙ sym c.stands_before.ensures ∙ c.if-stands_before.true) in
    c.loop-i.invariant ∙ here u c.args.sorted.now c.loop-i.i v below c.index-sorted-i.is other

pub loop-i-preserved : goal.loop-i-preserved
loop-i-preserved c =
    let u = c.args.key.now in
    let v = c.index-sorted-i.result in
    let below : c.loop-i.i < length c.args.sorted.now = omega arith in
    let gt : is_gt (bytes_cmp u.0 v.0) ≡ true =
    not_false (is_gt (bytes_cmp u.0 v.0)) ((λ j. not (is_gt (bytes_cmp (sym c.name.ensures j) (sym c.name-in-loop-i.ensures j)))) ∙ sym c.stands_before.ensures ∙ c.if-stands_before.false) in
    c.loop-i.invariant ∙ behind u c.args.sorted.now c.loop-i.i v below c.index-sorted-i.is gt

pub returns-clause-place : goal.returns-clause-place
returns-clause-place c = c.loop-i.invariant ∙ at_end c.args.key.now c.args.sorted.now c.loop-i.i (omega arith)
