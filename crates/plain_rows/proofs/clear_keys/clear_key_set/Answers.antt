use Rattle.std.proofs.Common.{◌≡◌, ◌<◌, Bool, List, ℕ, Some, ◌||◌, length, true, ap, subst, sym, ◌∙◌, arith}
use Rattle.std.specs.List.{list_any}
use Rattle.std.proofs.lemmas.Bool.{true≢false, eqb-false}
use Rattle.line_fields.specs.Clear.{IsClearText}
use Rattle.plain_rows.specs.Lines.{line_keys, same_some}
use Rattle.plain_rows.proofs.KeySteps.{or_right}
use Rattle.plain_rows.proofs.clear_keys.clear_key_set.Goals as goal

pub lines-init : goal.lines-init
lines-init c = record {
  clear = λ is. subst IsClearText (sym c.new-rest.ensures) is;
  among = λ is key there. absurd (true≢false (sym there ∙ c.in_ok-keys.ensures key));
  left = λ is q there. subst (λ (xs : List ℕ). list_any (same_some q) (line_keys c.args.columns.now c.args.place xs) ≡ true) c.new-rest.ensures there;
}

pub lines-preserved : goal.lines-preserved
lines-preserved c =
    let columns = c.args.columns.now in
    let place = c.args.place in
    let behind = c.in-Some.behind in
    let inv = c.lines.invariant in
    let key = Some c.in-Some.key.now in
    let other = eqb-false (length c.lines.rest) 0 (sym c.is_empty.ensures ∙ c.lines-test.true) in
    let some : 0 < length c.lines.rest = omega arith in
    record {
      clear = λ is. (c.in-Some.ensures.first (inv.clear is) some).rest;
      among = λ is.
          let first = c.in-Some.ensures.first (inv.clear is) some in
          c.in_ok-add_key.ensures (line_keys columns place c.args.text.now) (inv.among is) (λ q same. inv.left is q (ap (list_any (same_some q)) first.keys ∙ ap (λ (b : Bool). b || list_any (same_some q) (line_keys columns place behind)) same));
      left = λ is q there.
          let first = c.in-Some.ensures.first (inv.clear is) some in
          inv.left is q (ap (list_any (same_some q)) first.keys ∙ or_right (same_some q key) (list_any (same_some q) (line_keys columns place behind)) there);
    }
