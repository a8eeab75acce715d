-- The set has one more label.
use Rattle.std.proofs.Common.{◌≡◌, ℕ, true, cond, List, [], ◌∷◌, ◌++◌, take, ◌+◌, ap, sym, ◌∙◌, arith}
use Rattle.std.specs.Borrow.{Bor}
use Rattle.std.specs.List.{list_any}
use Rattle.std.proofs.lemmas.List.{take_more}
use Rattle.cat_model.specs.Lexemes.{same_text}
use Rattle.field_values.proofs.Lookups.{one_more_label}
use Rattle.field_values.proofs.labels.label_set.Goals as goal

pub loop-label-preserved : goal.loop-label-preserved
loop-label-preserved c = λ text.
    let labels = c.args.labels.now in
    let i = c.loop-label.label-index in
    let q : Bor (List ℕ) = record { ref_ptr = (0, 0); now = text } in
    let e : take i labels ++ c.as_bytes.result.now ∷ [] ≡ take (i + 1) labels =
    ap (λ (x : List ℕ). take i labels ++ x ∷ []) (c.as_bytes.ensures.value ∙ c.label-item.is) ∙ sym (take_more labels i c.label-item.result (omega arith)) in
    c.in_ok-insert.ensures.updates.0 q
    ∙ (λ i. cond (same_text c.as_bytes.result.now text) true (c.loop-label.invariant text i))
    ∙ one_more_label (take i labels) c.as_bytes.result.now text
    ∙ ap (list_any (same_text text)) e
