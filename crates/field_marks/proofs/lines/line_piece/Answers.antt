use Rattle.std.proofs.Common.{◌≡◌, ℕ, Some, subst, arith}
use Rattle.std.specs.List.{slice_get}
use Rattle.copy_text.specs.Pieces.{pieces}
use Rattle.line_fields.specs.Clear.{first_line}
use Rattle.line_fields.proofs.Walks.{reached_start, reached_next, reached_piece}
use Rattle.field_marks.proofs.Ends.{line_ended}
use Rattle.field_marks.proofs.lines.line_piece.Goals as goal

pub loop-i-init : goal.loop-i-init
loop-i-init c = record { reached = λ is. reached_start c.args.text is; short = omega arith }

pub loop-i-preserved : goal.loop-i-preserved
loop-i-preserved c =
    let inv = c.loop-i.invariant in
    let field = c.split-more.result in
    record {
      reached = λ is.
          let so_far = inv.reached is in
          reached_next c.args.text c.loop-i.i c.loop-i.rest field.0.now field.1 field.2 so_far c.if-not-more.false (c.split-more.ensures.field so_far.clear);
      short = omega (arith, c.split-more.ensures.shorter, inv.short);
    }

pub returns-clause-piece : goal.returns-clause-piece
returns-clause-piece c = λ is.
    let text = c.args.text in
    let field = c.split-more-2.result in
    let so_far = c.loop-i.invariant.reached is in
    let place : c.loop-i.i ≡ c.args.place = omega (arith, c.loop-i.auto.i-end, c.loop-i-test.false) in
    subst (λ (n : ℕ). slice_get (pieces (first_line text)) n ≡ Some field.0.now) place (reached_piece text c.loop-i.i c.loop-i.rest field.0.now field.1 field.2 so_far (c.split-more-2.ensures.field so_far.clear))

pub returns-clause-line : goal.returns-clause-line
returns-clause-line c = λ is.
    let field = c.split-more-2.result in
    let so_far = c.loop-i.invariant.reached is in
    line_ended c.args.text c.loop-i.i c.loop-i.rest field.0.now field.1 field.2 c.behind_more.result so_far (c.split-more-2.ensures.field so_far.clear) c.behind_more.ensures.ended c.behind_more.ensures.line

pub returns-clause-shorter : goal.returns-clause-shorter
returns-clause-shorter c = omega (arith, c.behind_more.ensures.shorter, c.split-more-2.ensures.shorter, c.loop-i.invariant.short)
