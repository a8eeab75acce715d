use Rattle.std.proofs.Common.{◌≡◌, IfOk, ℕ, Option, length, Ok, ap, ap₂, arith, subst, ◌∙◌}
use Rattle.std.specs.Option.{option_and_then}
use Rattle.cat_model.specs.Values.{Bytes}
use Rattle.cat_model.specs.declared.stmt.Stmt.{Stmt}
use Rattle.ddl_scripts.specs.Reading.{statements_of}
use Rattle.constraint_table.specs.Said.{only_statement, statement_text}
use Rattle.dump_stmts.specs.Keys.{added_to}
use Rattle.dump_stmts.specs.Paths.{written}
use Rattle.dump_stmts.proofs.keys.added.Goals as goal

pub returns : goal.returns
returns c =
    let of_text = c.in_ok-text.ensures ∙ ap statement_text c.as_bytes.ensures.value in
    let long : c.len.result ≡ length c.in_ok-text.text.items = omega (arith, c.in_ok-text.text.ok.0, c.len.ensures) in
    subst (λ (o : Option Stmt). IfOk c.only_added.result (λ text. text ≡ written (option_and_then (added_to c.args.q c.args.row.now.conname) o)))
    (c.only_statement.ensures
    ∙ ap (λ ss. only_statement c.len.result (Ok ss)) c.deref-2.ensures.value
    ∙ c.in_ok-statements.ensures c.len.result
    ∙ ap₂ (λ (n : ℕ) (t : Bytes). only_statement n (statements_of t)) (long ∙ ap length of_text) (c.deref.ensures.value ∙ of_text))
    c.only_added.ensures
