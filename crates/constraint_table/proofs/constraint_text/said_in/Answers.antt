use Rattle.std.proofs.Common.{IfOk, Option, length, Ok, ap, subst, ◌≡◌, ◌∙◌}
use Rattle.std.specs.Option.{option_and_then}
use Rattle.cat_model.specs.declared.stmt.Stmt.{Stmt}
use Rattle.constraint_table.specs.Said.{only_statement, said_by}
use Rattle.constraint_table.proofs.constraint_text.said_in.Goals as goal

pub returns : goal.returns
returns c =
    let n = length c.args.text.now in
    subst (λ (o : Option Stmt). IfOk c.said_of-said.result (λ said. said ≡ option_and_then said_by o))
    (ap (λ ss. only_statement n (Ok ss)) c.deref.ensures.value ∙ c.in_ok-statements.ensures n)
    c.said_of-said.ensures
