use Rattle.ddl_relations.proofs.Common.{err_from_is_err_and, none_more, no_item, one_more, fewer}
use Rattle.ddl_grammar_laws.proofs.ColumnLaws.{names_apart}
use Rattle.ddl_relations.proofs.columns.further.Goals as goal

pub returns-then-not-is_sign : goal.returns-then-not-is_sign
returns-then-not-is_sign c = none_more c.names.invariant cc

pub returns-in_err-name : goal.returns-in_err-name
returns-in_err-name c =
    let p = err_from_is_err_and c.from_residual.result c.from_residual.ensures.1 in
    rw (p.1, p.2) (no_item c.names.invariant _ (cc) c.in_err-name.ensures)

pub names-smaller : goal.names-smaller
names-smaller c = fewer names_apart (λ x. x) c.args.pieces.now tt c.names.at (c.in_ok-name.name, c.in_ok-name.next) (cc) c.in_ok-name.ensures

pub names-preserved : goal.names-preserved
names-preserved c = rw c.in_ok-push.ensures.items (one_more c.names.invariant names_apart (λ x. x) (c.in_ok-name.name, c.in_ok-name.next) (cc) c.in_ok-name.ensures)
