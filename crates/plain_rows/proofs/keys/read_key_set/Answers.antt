use Rattle.std.proofs.Common.{◌≡◌, Bool, Option, List, ℕ, ◌∷◌, ◌||◌, ap, subst, sym, ◌∙◌}
use Rattle.std.specs.List.{AllByRecursion, list_any}
use Rattle.std.specs.Option.{option_map}
use Rattle.copy_text.specs.Lines.{data_lines}
use Rattle.copy_text.specs.Texts.{IsText}
use Rattle.plain_rows.specs.Lines.{line_key, line_keys, same_some}
use Rattle.plain_rows.proofs.KeySteps.{first_key, or_right}
use Rattle.plain_rows.proofs.keys.read_key_set.Goals as goal

pub lines-preserved : goal.lines-preserved
lines-preserved c =
    let columns = c.args.columns.now in
    let place = c.args.place in
    let line = c.in-Some.line.now in
    let behind = c.in-Some.behind.now in
    let inv = c.lines.invariant in
    let key : Option (List ℕ) = option_map (λ t. t.now) c.in-Some-2.key in
    let read : IsText line → key ≡ line_key columns place line = rw c.in-Some-2.is at c.in_ok-key.ensures in
    let texts : AllByRecursion IsText (line ∷ data_lines behind) = subst (AllByRecursion IsText) c.in-Some.ensures.some inv.texts in
    let first : line_keys columns place c.lines.rest.now ≡ key ∷ line_keys columns place behind =
    first_key columns place c.lines.rest.now line behind c.in-Some.ensures.some ∙ ap (λ (k : Option (List ℕ)). k ∷ line_keys columns place behind) (sym (read texts.0)) in
    record {
      texts = texts.1;
      among = c.in_ok-add_key.ensures (line_keys columns place c.args.text.now) inv.among (λ q same. inv.left q (ap (list_any (same_some q)) first ∙ ap (λ (b : Bool). b || list_any (same_some q) (line_keys columns place behind)) same));
      left = λ q there. inv.left q (ap (list_any (same_some q)) first ∙ or_right (same_some q key) (list_any (same_some q) (line_keys columns place behind)) there);
    }
