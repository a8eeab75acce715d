use Rattle.std.proofs.Common.{◌≡◌, ℕ, ◌+◌, Bool, false, length, ap, sym, subst, ◌∙◌, arith}
use Rattle.restore_queue.specs.Choosing.{goes, goes_at}
use Rattle.restore_queue.proofs.Firsts.{find-on, none-goes}
use Rattle.restore_queue.proofs.choosing.first_place.Goals as goal

pub places-preserved-then-is_marked : goal.places-preserved-then-is_marked
places-preserved-then-is_marked c =
    let a = c.args in
    let i = c.places.i in
    let goes_on : ℕ → Bool = goes_at a.plan.now a.phases.now a.waits.now a.met.now a.running.now in
    let not : goes_on i ≡ false = ap goes (sym c.choice_at.ensures) ∙ sym c.goes.ensures ∙ c.if-goes.false in
    record {
      within = omega arith;
      same = sym (find-on goes_on i (i + 1) (length a.plan.now) (omega arith) (omega arith) (λ k low less. let is : i ≡ k = omega arith in subst (λ (n : ℕ). goes_on n ≡ false) is not)) ∙ c.places.invariant.same;
    }

pub places-preserved : goal.places-preserved
places-preserved c =
    let a = c.args in
    let i = c.places.i in
    let e = c.block_end-i.result in
    let goes_on : ℕ → Bool = goes_at a.plan.now a.phases.now a.waits.now a.met.now a.running.now in
    record {
      within = c.block_end-i.ensures.within;
      same = sym (find-on goes_on i e (length a.plan.now) (omega arith) c.block_end-i.ensures.within (λ k low less. none-goes a.plan.now a.phases.now a.waits.now a.met.now a.marks.now a.running.now i k c.requires (sym c.is_marked.ensures ∙ c.if-is_marked.false) (c.block_end-i.ensures.same k low less))) ∙ c.places.invariant.same;
    }
