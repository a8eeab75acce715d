use Rattle.std.proofs.Common.{refl, sym, ◌∙◌, arith}
use Rattle.field_marks.proofs.lines.skip_line.Goals as goal

pub pieces-init : goal.pieces-init
pieces-init c = record { clear = λ is. is; line = λ is. refl; short = omega arith }

pub pieces-preserved : goal.pieces-preserved
pieces-preserved c =
    let inv = c.pieces.invariant in
    record {
      clear = λ is. (c.split-more.ensures.field (inv.clear is)).clear;
      line = λ is. inv.line is ∙ (c.split-more.ensures.field (inv.clear is)).same_line c.if-not-more.false;
      short = omega (arith, c.split-more.ensures.shorter, inv.short);
    }

pub returns-then-not-more-clause-line : goal.returns-then-not-more-clause-line
returns-then-not-more-clause-line c = λ is.
    let inv = c.pieces.invariant in
    sym (inv.line is ∙ (c.split-more.ensures.field (inv.clear is)).next_line c.if-not-more.true)

pub returns-then-not-more-clause-shorter : goal.returns-then-not-more-clause-shorter
returns-then-not-more-clause-shorter c = omega (arith, c.split-more.ensures.shorter, c.pieces.invariant.short)
