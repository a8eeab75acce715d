use Rattle.std.proofs.Common.{◌≡◌, ◌<◌, ◌∷◌, ◌++◌, ℕ, List, [], Option, Some, length, sym, ap, subst, ◌∙◌, append_assoc, arith}
use Rattle.std.specs.List.{AllByRecursion}
use Rattle.std.proofs.lemmas.Bool.{eqb-true, eqb-false}
use Rattle.std.proofs.lemmas.List.{append-nil}
use Rattle.copy_text.specs.Lines.{data_lines}
use Rattle.line_fields.specs.Clear.{IsClearText}
use Rattle.plain_rows.specs.Lines.{LineFits, line_keys}
use Rattle.plain_rows.specs.Parts.{AreApart}
use Rattle.plain_rows.proofs.RisingLines.{no_line_fails, no_keys}
use Rattle.plain_rows.proofs.parts.part_fits.Goals as goal

pub lines-init : goal.lines-init
lines-init c = record {
  clear = λ is. subst IsClearText (sym c.new-rest.ensures) is;
  fit = λ is primary all. subst (λ (xs : List ℕ). AllByRecursion (LineFits c.args.columns.now primary) (data_lines xs)) c.new-rest.ensures all;
  apart = λ is. (
    [],
    ap (line_keys c.args.columns.now c.args.place) (sym c.new-rest.ensures),
    λ before are. subst (λ (ks : List (Option (List ℕ))). AreApart ks c.args.keys.now) (sym (append-nil before)) are,
  );
}

pub lines-preserved : goal.lines-preserved
lines-preserved c =
    let inv = c.lines.invariant in
    let rest = c.lines.rest in
    let key = c.in-Some.key.now in
    let behind = c.in-Some.behind in
    let other = eqb-false (length rest) 0 (sym c.is_empty.ensures ∙ c.lines-test.true) in
    let some : 0 < length rest = omega arith in
    record {
      clear = λ is. (c.in-Some.ensures.first (inv.clear is) some).rest;
      fit = λ is primary all. inv.fit is primary ((c.in-Some.ensures.first (inv.clear is) some).fits primary all);
      apart = λ is.
          let first = c.in-Some.ensures.first (inv.clear is) some in
          let so_far = inv.apart is in
          let front = so_far.0 in
          let more = line_keys c.args.columns.now c.args.place behind in (
            front ++ Some key ∷ [],
            so_far.1 ∙ ap (λ (ks : List (Option (List ℕ))). front ++ ks) first.keys ∙ sym (append_assoc front (Some key ∷ []) more),
            λ before are.
                subst (λ (ks : List (Option (List ℕ))). AreApart ks c.add_number.new.keys) (append_assoc before front (Some key ∷ []))
                (c.add_number.ensures c.if-not-add_number.false (before ++ front) (so_far.2 before are)),
          );
    }

pub returns-clause-fit : goal.returns-clause-fit
returns-clause-fit c = λ yes is primary.
    let none : length c.lines.rest ≡ 0 = eqb-true _ _ (sym c.is_empty.ensures ∙ c.lines-test.false) in
    c.lines.invariant.fit is primary (no_line_fails c.args.columns.now primary c.lines.rest none)

pub returns-clause-apart : goal.returns-clause-apart
returns-clause-apart c = λ yes is before are.
    let none : length c.lines.rest ≡ 0 = eqb-true _ _ (sym c.is_empty.ensures ∙ c.lines-test.false) in
    let so_far = c.lines.invariant.apart is in
    let front = so_far.0 in
    let all : line_keys c.args.columns.now c.args.place c.args.part.now ≡ front =
    so_far.1 ∙ ap (λ (ks : List (Option (List ℕ))). front ++ ks) (no_keys c.args.columns.now c.args.place c.lines.rest none) ∙ append-nil front in
    subst (λ (ks : List (Option (List ℕ))). AreApart (before ++ ks) c.lines.keys) (sym all) (so_far.2 before are)
