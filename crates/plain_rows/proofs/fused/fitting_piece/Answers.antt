use Rattle.std.proofs.Common.{◌≡◌, ◌+◌, ◌<◌, List, ℕ, Some, length, sym, ap, subst, ◌∙◌, arith}
use Rattle.std.specs.List.{slice_get}
use Rattle.std.proofs.lemmas.Bool.{eqb-true}
use Rattle.copy_text.specs.Pieces.{pieces}
use Rattle.line_fields.specs.Clear.{first_line}
use Rattle.line_fields.proofs.Walks.{reached_start, reached_next, reached_end, reached_piece}
use Rattle.plain_rows.proofs.FieldSteps.{next_piece, last_piece}
use Rattle.plain_rows.proofs.KeySteps.{some_weaker}
use Rattle.plain_rows.proofs.RisingLines.{found_step}
use Rattle.plain_rows.proofs.fused.fitting_piece.Goals as goal

pub loop-i-init : goal.loop-i-init
loop-i-init c = record {
  reached = λ clear. reached_start c.args.text clear;
  taken = λ clear all. all;
  there = λ clear p none. absurd cc;
  short = omega arith;
}

pub loop-i-preserved : goal.loop-i-preserved
loop-i-preserved c =
    let columns = c.args.columns.now in
    let text = c.args.text in
    let place = c.args.place in
    let i = c.loop-i.i in
    let rest = c.loop-i.rest in
    let inv = c.loop-i.invariant in
    let field = c.split-more.result in
    let below : i < length columns = omega arith in
    record {
      reached = λ clear.
          let so_far = inv.reached clear in
          reached_next text i rest field.0.now field.1 field.2 so_far c.if-not-more.false (c.split-more.ensures.field so_far.clear);
      taken = λ clear all.
          let is = c.split-more.ensures.field (inv.reached clear).clear in
          inv.taken clear (next_piece columns i c.index-columns-i.result (first_line rest) field.0.now (pieces (first_line field.2)) below c.index-columns-i.is (is.goes_on c.if-not-more.false) (sym c.takes.ensures ∙ c.if-not-takes.false) all);
      there = λ clear p same.
          let so_far = inv.reached clear in
          let here : slice_get (pieces (first_line text)) i ≡ Some field.0.now = reached_piece text i rest field.0.now field.1 field.2 so_far (c.split-more.ensures.field so_far.clear) in
          found_step {P = λ (q : List ℕ). slice_get (pieces (first_line text)) place ≡ Some q} _ field.0.now p _ _ c.piece_or-found.ensures (λ is. subst (λ (n : ℕ). slice_get (pieces (first_line text)) n ≡ Some field.0.now) (eqb-true _ _ is) here) (inv.there clear) same;
      short = omega (arith, c.split-more.ensures.shorter, inv.short);
    }

pub returns-then-not-more-clause-fits : goal.returns-then-not-more-clause-fits
returns-then-not-more-clause-fits c = some_weaker _ _ (λ p whole clear.
    let columns = c.args.columns.now in
    let rest = c.loop-i.rest in
    let inv = c.loop-i.invariant in
    let field = c.split-more.result in
    let is = c.split-more.ensures.field (inv.reached clear).clear in
    let all : c.loop-i.i + 1 ≡ length columns = eqb-true _ _ whole in
    inv.taken clear (last_piece columns c.loop-i.i c.index-columns-i.result (first_line rest) field.0.now all c.index-columns-i.is (is.ends c.if-not-more.true) (sym c.takes.ensures ∙ c.if-not-takes.false)))
    c.found_in.result c.found_in.ensures.whole

pub returns-then-not-more-clause-piece : goal.returns-then-not-more-clause-piece
returns-then-not-more-clause-piece c = some_weaker _ _ (λ p same clear.
    let text = c.args.text in
    let i = c.loop-i.i in
    let inv = c.loop-i.invariant in
    let field = c.split-more.result in
    let so_far = inv.reached clear in
    let here : slice_get (pieces (first_line text)) i ≡ Some field.0.now = reached_piece text i c.loop-i.rest field.0.now field.1 field.2 so_far (c.split-more.ensures.field so_far.clear) in
    found_step {P = λ (q : List ℕ). slice_get (pieces (first_line text)) c.args.place ≡ Some q} _ field.0.now p.0.now _ _ c.piece_or-found.ensures (λ is. subst (λ (n : ℕ). slice_get (pieces (first_line text)) n ≡ Some field.0.now) (eqb-true _ _ is) here) (inv.there clear) same)
    c.found_in.result c.found_in.ensures.piece

pub returns-then-not-more-clause-line : goal.returns-then-not-more-clause-line
returns-then-not-more-clause-line c = some_weaker _ _ (λ p same clear.
    let field = c.split-more.result in
    let so_far = c.loop-i.invariant.reached clear in
    same ∙ sym (reached_end c.args.text c.loop-i.i c.loop-i.rest field.0.now field.1 field.2 so_far c.if-not-more.true (c.split-more.ensures.field so_far.clear)))
    c.found_in.result c.found_in.ensures.behind

pub returns-then-not-more-clause-shorter : goal.returns-then-not-more-clause-shorter
returns-then-not-more-clause-shorter c = some_weaker _ _ (λ p same.
    omega (arith, ap (length {A = ℕ}) same, c.split-more.ensures.shorter, c.loop-i.invariant.short))
    c.found_in.result c.found_in.ensures.behind
