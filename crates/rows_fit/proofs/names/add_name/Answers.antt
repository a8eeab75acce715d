-- The set has one more name.
use Rattle.std.proofs.Common.{ℕ, List, true, cond, not, ap, ◌∙◌}
use Rattle.std.specs.Borrow.{Bor}
use Rattle.cat_model.specs.Lexemes.{same_text}
use Rattle.rows_fit.proofs.Distinct.{one_in_front}
use Rattle.rows_fit.proofs.names.add_name.Goals as goal

pub returns-clause-new : goal.returns-clause-new
returns-clause-new c = λ names are. c.in_ok-insert.ensures.added ∙ ap not (are c.args.name.now)

pub returns-clause-added : goal.returns-clause-added
returns-clause-added c = λ names are text.
    let at : Bor (List ℕ) = record { ref_ptr = (0, 0); now = text } in
    c.in_ok-insert.ensures.updates.0 at
    ∙ (λ i. cond (same_text c.args.name.now text) true (are text i))
    ∙ one_in_front c.args.name.now text names
