use Rattle.std.proofs.Common.{◌+◌, ◌-◌, ◌*◌, ◌<◌, length, map, is_none, ap, sym, subst, ◌∙◌, arith}
use Rattle.cat_book.specs.Chains.{base_place, doubled, AreEnds}
use Rattle.cat_book.proofs.Walks.{AreSteps, first_steps, more_steps, ends_at_last}
use Rattle.cat_book.proofs.chains.chain_ends.Goals as goal

pub loop-count-init : goal.loop-count-init
loop-count-init c =
    let rows = c.args.rows.now in
    (subst (λ ss. AreSteps rows ss 1) (sym (c.in_ok-steps.ensures ∙ ap (λ os. map (base_place os) rows) c.requires)) (first_steps rows), omega arith)

pub loop-count-smaller : goal.loop-count-smaller
loop-count-smaller c =
    let n = length c.args.rows.now in
    let k = c.loop-count.count in
    let less : n + 1 - k * 2 < n + 1 - k = omega (arith, c.loop-count-test.true, c.loop-count.invariant.1) in
    less

pub loop-count-preserved : goal.loop-count-preserved
loop-count-preserved c =
    let rows = c.args.rows.now in
    let k = c.loop-count.count in
    (subst (λ ss. AreSteps rows ss (k * 2)) (sym (c.in_ok-steps-2.ensures ∙ ap doubled c.deref.ensures.value)) (more_steps rows c.loop-count.steps.items k c.loop-count.invariant.0), omega (arith, c.loop-count.invariant.1))

pub returns : goal.returns
returns c =
    let rows = c.args.rows.now in
    let k = c.loop-count.count in
    let long : length rows < k = omega (arith, c.loop-count-test.false) in
    subst (AreEnds rows) (sym (c.in_ok-ends.ensures ∙ ap (map is_none) c.deref-2.ensures.value)) (ends_at_last rows c.loop-count.steps.items k c.loop-count.invariant.0 long)
