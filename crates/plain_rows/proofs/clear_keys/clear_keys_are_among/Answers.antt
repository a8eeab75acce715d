use Rattle.std.proofs.Common.{◌≡◌, ◌<◌, List, ℕ, length, true, ap, subst, sym, ◌∙◌, arith}
use Rattle.std.proofs.lemmas.Bool.{eqb-true, eqb-false}
use Rattle.line_fields.specs.Clear.{IsClearText}
use Rattle.plain_rows.specs.Lines.{all_among, line_keys}
use Rattle.plain_rows.proofs.RisingLines.{no_keys}
use Rattle.plain_rows.proofs.clear_keys.clear_keys_are_among.Goals as goal

pub lines-init : goal.lines-init
lines-init c = record {
  clear = λ is. subst IsClearText (sym c.new-rest.ensures) is;
  among = λ is all among there. subst (λ (xs : List ℕ). all_among all (line_keys c.args.columns.now c.args.place xs) ≡ true) c.new-rest.ensures there;
}

pub lines-preserved : goal.lines-preserved
lines-preserved c =
    let inv = c.lines.invariant in
    let other = eqb-false (length c.lines.rest) 0 (sym c.is_empty.ensures ∙ c.lines-test.true) in
    let some : 0 < length c.lines.rest = omega arith in
    record {
      clear = λ is. (c.in-Some.ensures.first (inv.clear is) some).rest;
      among = λ is all among there.
          let first = c.in-Some.ensures.first (inv.clear is) some in
          inv.among is all among (ap (all_among all) first.keys ∙ c.is_among.ensures c.if-not-is_among.false all (line_keys c.args.columns.now c.args.place c.in-Some.behind) among there);
    }

pub returns : goal.returns
returns c = λ yes is all among.
    let none : length c.lines.rest ≡ 0 = eqb-true _ _ (sym c.is_empty.ensures ∙ c.lines-test.false) in
    c.lines.invariant.among is all among (ap (all_among all) (no_keys c.args.columns.now c.args.place c.lines.rest none))
