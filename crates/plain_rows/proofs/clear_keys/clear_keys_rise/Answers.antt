use Rattle.std.proofs.Common.{◌≡◌, ◌<◌, ◌∷◌, ℕ, List, [], true, length, refl, sym, ap, subst, ◌∙◌, arith}
use Rattle.std.proofs.lemmas.Bool.{eqb-true, eqb-false}
use Rattle.line_fields.specs.Clear.{IsClearText}
use Rattle.plain_rows.specs.Lines.{line_keys, none_again}
use Rattle.plain_rows.proofs.KeySteps.{new_key}
use Rattle.plain_rows.proofs.RisingLines.{no_keys}
use Rattle.plain_rows.proofs.clear_keys.clear_keys_rise.Goals as goal

pub lines-init : goal.lines-init
lines-init c = record {
  clear = λ is. subst IsClearText (sym c.new-rest.ensures) is;
  rise = λ is. ([], λ key. refl, λ all. subst (λ (xs : List ℕ). none_again [] (line_keys c.args.columns.now c.args.place xs) ≡ true) c.new-rest.ensures all);
}

pub lines-preserved : goal.lines-preserved
lines-preserved c =
    let inv = c.lines.invariant in
    let rest = c.lines.rest in
    let key = c.in-Some.key.now in
    let other = eqb-false (length rest) 0 (sym c.is_empty.ensures ∙ c.lines-test.true) in
    let some : 0 < length rest = omega arith in
    record {
      clear = λ is. (c.in-Some.ensures.first (inv.clear is) some).rest;
      rise = λ is.
          let first = c.in-Some.ensures.first (inv.clear is) some in
          let known = inv.rise is in
          let more = line_keys c.args.columns.now c.args.place c.in-Some.behind in (
            key ∷ known.0,
            c.rise_to.ensures.risen c.if-not-rise_to.false known.0 known.1,
            λ all. known.2 (ap (none_again known.0) first.keys ∙ new_key key known.0 more (c.rise_to.ensures.new c.if-not-rise_to.false known.0 known.1) all),
          );
    }

pub returns : goal.returns
returns c = λ yes is.
    let none : length c.lines.rest ≡ 0 = eqb-true _ _ (sym c.is_empty.ensures ∙ c.lines-test.false) in
    let known = c.lines.invariant.rise is in
    known.2 (ap (none_again known.0) (no_keys c.args.columns.now c.args.place c.lines.rest none))
