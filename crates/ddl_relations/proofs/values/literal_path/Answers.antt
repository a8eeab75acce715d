use Rattle.ddl_relations.proofs.Common.{ℕ, List, drop, Err, sym, ap, subst, ◌∙◌, err_from_is_err_and, path_in, GivesPath}
use Rattle.ddl_relations.proofs.ValueLaws.{literal_fails, path_fails, path_is_read}
use Rattle.ddl_relations.proofs.values.literal_path.Goals as goal

pub returns-in_err-text : goal.returns-in_err-text
returns-in_err-text c =
    let p = err_from_is_err_and c.from_residual.result c.from_residual.ensures.1 in
    rw (p.1, p.2) (literal_fails c.args.pieces.now c.args.at c.in_err-text.field-0.0 c.in_err-text.ensures)

pub returns-in_err-q : goal.returns-in_err-q
returns-in_err-q c =
    let p = err_from_is_err_and c.from_residual-in_err-q.result c.from_residual-in_err-q.ensures.1 in
    let gives = subst (λ (x : List ℕ). GivesPath c.args.at (Err c.in_err-q.field-0.0) (path_in x)) c.as_bytes.ensures.value c.in_err-q.ensures in
    rw (p.1, p.2) (path_fails c.args.pieces.now c.args.at c.in_ok-text.end c.in_ok-text.text c.in_err-q.field-0.0 c.in_ok-text.ensures gives)

pub returns : goal.returns
returns c =
    path_is_read (drop c.args.at c.args.pieces.now) (drop c.in_ok-text.end c.args.pieces.now) c.in_ok-text.text c.in_ok-q.q c.in_ok-text.ensures (sym (ap path_in c.as_bytes.ensures.value) ∙ c.in_ok-q.ensures)
