use Rattle.std.proofs.Common.{◌≡◌, ℕ, List, ◌++◌, OnOk, subst}
use Rattle.copy_text.specs.Rows.{Field}
use Rattle.cat_model.specs.RowTexts.{rows_held}
use Rattle.cat_model.proofs.RowsSpelled.{joined, every, left_joined, left_rows}
use Rattle.cat_model.proofs.rows.TableRows.append.Goals as goal

pub invariant_of-self : goal.invariant_of-self
invariant_of-self c =
    let r = c.append_text.result in
    let text = c.self.inside.text.items in
    let other = c.other.inside.text.items in
    let new = c.append_text.new.text.items in
    left_joined text other new c.self.invariant r (every r (joined text other c.self.invariant c.other.invariant))
    (subst (λ (more : List ℕ). OnOk r (new ≡ text ++ more)) c.deref.ensures.value c.append_text.ensures.ok) c.append_text.ensures.err

pub returns-clause-ok : goal.returns-clause-ok
returns-clause-ok c =
    let r = c.append_text.result in
    let text = c.self.inside.text.items in
    let other = c.other.inside.text.items in
    let new = c.append_text.new.text.items in
    subst (λ (rows : List (List Field)). OnOk r (rows_held new ≡ c.args.self.now ++ rows)) c.other.view_is
    (subst (λ (rows : List (List Field)). OnOk r (rows_held new ≡ rows ++ rows_held other)) c.self.view_is
    (left_rows text other new c.self.invariant r (every r (joined text other c.self.invariant c.other.invariant))
    (subst (λ (more : List ℕ). OnOk r (new ≡ text ++ more)) c.deref.ensures.value c.append_text.ensures.ok)))
