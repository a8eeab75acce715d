use Rattle.std.proofs.Common.{arith}
use Rattle.line_fields.proofs.Walks.{reached_start, reached_next}
use Rattle.row_fields.proofs.counted.behind_row.Goals as goal

pub loop-i-init : goal.loop-i-init
loop-i-init c = record { reached = λ clear. reached_start c.args.text.now clear; short = omega arith }

pub loop-i-preserved : goal.loop-i-preserved
loop-i-preserved c =
    let inv = c.loop-i.invariant in
    let field = c.split_field-more.result in
    record {
      reached = λ clear.
          let so_far = inv.reached clear in
          reached_next c.args.text.now c.loop-i.i c.loop-i.rest.now field.0.now field.1 field.2.now so_far c.if-not-more.false (c.split_field-more.ensures.field so_far.clear);
      short = omega (arith, c.split_field-more.ensures.shorter, inv.short);
    }
