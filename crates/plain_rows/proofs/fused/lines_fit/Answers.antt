use Rattle.std.proofs.Common.{◌≡◌, ◌<◌, ◌∷◌, ℕ, List, [], true, length, refl, sym, ap, subst, ◌∙◌, arith}
use Rattle.std.specs.List.{AllByRecursion}
use Rattle.std.proofs.lemmas.Bool.{eqb-true, eqb-false}
use Rattle.copy_text.specs.Lines.{data_lines}
use Rattle.line_fields.specs.Clear.{IsClearText}
use Rattle.plain_rows.specs.Lines.{LineFits, line_keys, none_again}
use Rattle.plain_rows.proofs.KeySteps.{new_key}
use Rattle.plain_rows.proofs.RisingLines.{no_line_fails, no_keys}
use Rattle.plain_rows.proofs.fused.lines_fit.Goals as goal

pub lines-init : goal.lines-init
lines-init c = record {
  clear = λ is. subst IsClearText (sym c.new-rest.ensures) is;
  fit = λ is primary all. subst (λ (xs : List ℕ). AllByRecursion (LineFits c.args.columns.now primary) (data_lines xs)) c.new-rest.ensures all;
  rise = λ is. ([], λ key. refl, λ all. subst (λ (xs : List ℕ). none_again [] (line_keys c.args.columns.now c.args.place xs) ≡ true) c.new-rest.ensures all);
}

pub lines-preserved : goal.lines-preserved
lines-preserved c =
    let inv = c.lines.invariant in
    let rest = c.lines.rest in
    let key = c.in-Some.key.now in
    let behind = c.in-Some.behind in
    let other = eqb-false (length rest) 0 (sym c.is_empty.ensures ∙ c.lines-test.true) in
    let some : 0 < length rest = omega arith in
    record {
      clear = λ is. (c.in-Some.ensures.first (inv.clear is) some).rest;
      fit = λ is primary all. inv.fit is primary ((c.in-Some.ensures.first (inv.clear is) some).fits primary all);
      rise = λ is.
          let first = c.in-Some.ensures.first (inv.clear is) some in
          let known = inv.rise is in
          let more = line_keys c.args.columns.now c.args.place behind in (
            key ∷ known.0,
            c.rise_to.ensures.risen c.if-not-rise_to.false known.0 known.1,
            λ all. known.2 (ap (none_again known.0) first.keys ∙ new_key key known.0 more (c.rise_to.ensures.new c.if-not-rise_to.false known.0 known.1) all),
          );
    }

pub returns-clause-fit : goal.returns-clause-fit
returns-clause-fit c = λ yes is primary.
    let none : length c.lines.rest ≡ 0 = eqb-true _ _ (sym c.is_empty.ensures ∙ c.lines-test.false) in
    c.lines.invariant.fit is primary (no_line_fails c.args.columns.now primary c.lines.rest none)

pub returns-clause-rise : goal.returns-clause-rise
returns-clause-rise c = λ yes is.
    let none : length c.lines.rest ≡ 0 = eqb-true _ _ (sym c.is_empty.ensures ∙ c.lines-test.false) in
    let known = c.lines.invariant.rise is in
    known.2 (ap (none_again known.0) (no_keys c.args.columns.now c.args.place c.lines.rest none))
