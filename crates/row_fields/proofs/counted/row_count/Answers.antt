use Rattle.std.proofs.Common.{◌≡◌, ◌<◌, length, sym, ◌∙◌, arith}
use Rattle.std.proofs.lemmas.Bool.{eqb-true, eqb-false}
use Rattle.data_rows.proofs.RowLemmas.{kept_start, kept_end}
use Rattle.row_fields.proofs.Counting.{one_more, nothing_left}
use Rattle.row_fields.proofs.counted.row_count.Goals as goal

pub lines-init : goal.lines-init
lines-init c = record { counted = λ clear. record { kept = kept_start c.args.columns c.args.text.now; clear = clear }; room = omega arith }

pub lines-preserved : goal.lines-preserved
lines-preserved c =
    let inv = c.lines.invariant in
    let rest = c.lines.rest.now in
    let other = eqb-false (length rest) 0 (sym c.is_empty.ensures ∙ c.lines-test.true) in
    let some : 0 < length rest = omega arith in
    record {
      counted = λ clear.
          let so_far = inv.counted clear in
          one_more c.args.columns c.args.text.now rest c.in-Some.behind.now c.lines.count some c.in-Some.ensures.shorter so_far (c.in-Some.ensures.many so_far.clear.clear) (c.in-Some.ensures.line so_far.clear.clear);
      room = omega (arith, c.in-Some.ensures.shorter, inv.room);
    }

pub returns : goal.returns
returns c = λ clear.
    let so_far = c.lines.invariant.counted clear in
    let none : length c.lines.rest.now ≡ 0 = eqb-true _ _ (sym c.is_empty.ensures ∙ c.lines-test.false) in
    kept_end c.args.columns c.args.text.now c.lines.rest.now c.lines.count so_far.kept (nothing_left c.lines.rest.now (omega arith))
