use Rattle.std.proofs.Common.{◌<◌, ◌-◌, ◌*◌, length, ap, sym, subst, ◌∙◌, arith}
use Rattle.type_ends.specs.Jumps.{doubled}
use Rattle.type_ends.proofs.Trails.{AreJumps, single_steps, more_steps}
use Rattle.type_ends.proofs.jumps.far_jumps.Goals as goal

pub loop-count-init : goal.loop-count-init
loop-count-init c = record { are = single_steps c.args.steps.items; some = omega arith }

pub loop-count-preserved : goal.loop-count-preserved
loop-count-preserved c =
    let steps = c.args.steps.items in
    let k = c.loop-count.count in
    record {
      are = subst (λ js. AreJumps steps js (k * 2)) (sym (c.in_ok-jumps.ensures ∙ ap doubled c.deref.ensures.value)) (more_steps steps c.loop-count.jumps.items k c.loop-count.invariant.are);
      some = omega (arith, c.loop-count.invariant.some);
    }

pub loop-count-smaller : goal.loop-count-smaller
loop-count-smaller c =
    let n = length c.args.steps.items in
    let k = c.loop-count.count in
    let less : n - k * 2 < n - k = omega (arith, c.loop-count-test.true, c.loop-count.invariant.some, c.loop-count.invariant.are.all, c.loop-count.jumps.ok.0) in
    less

pub returns : goal.returns
returns c = record {
  count = c.loop-count.count;
  enough = omega (arith, c.loop-count-test.false, c.loop-count.invariant.are.all, c.loop-count.jumps.ok.0);
  leads = c.loop-count.invariant.are.leads;
}
