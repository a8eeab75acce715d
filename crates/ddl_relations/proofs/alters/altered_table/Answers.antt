use Rattle.ddl_relations.proofs.Common.{◌≡◌, List, drop, Ok, ap, err_from_is_err_and, QName, Stmt, Lexeme, seen_at, Fails, ReadError, Halted, Memory, TableChange, table_and, part, own_change, table_change, table_changed, altered_table}
use Rattle.ddl_relations.proofs.alters.altered_table.Goals as goal

seen_ok : (ts rest : List Lexeme) (q : QName) (change : TableChange) (s : Stmt) → (table_and (part own_change) (part table_change)).read ts ≡ Ok ((q, change), rest) → s ≡ table_changed q change → (part altered_table).read ts ≡ Ok (s, rest)
unfolding part altered_table
seen_ok ts rest q change s e is = rw is (ap (seen_at (λ (x : QName × TableChange). table_changed x.0 x.1)) e)

seen_fails : (ts from : List Lexeme) (error : ReadError) → Fails ts error ((table_and (part own_change) (part table_change)).read from) → Fails ts error ((part altered_table).read from)
unfolding part altered_table
seen_fails ts from Memory e = tt
seen_fails ts from (Halted h) e = ap (seen_at (λ (x : QName × TableChange). table_changed x.0 x.1)) e

pub returns-in_err-q : goal.returns-in_err-q
returns-in_err-q c =
    let ts = c.args.pieces.now in
    let p = err_from_is_err_and c.from_residual.result c.from_residual.ensures.1 in
    rw (p.1, p.2) (seen_fails ts (drop c.args.at ts) c.in_err-q.field-0.0 c.in_err-q.ensures)

pub returns : goal.returns
returns c =
    let ts = c.args.pieces.now in
    seen_ok (drop c.args.at ts) (drop c.in_ok-q.end ts) c.in_ok-q.q c.in_ok-q.change c.changed.result c.in_ok-q.ensures c.changed.ensures
