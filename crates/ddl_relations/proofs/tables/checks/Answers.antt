use Rattle.ddl_relations.proofs.Common.{err_from_is_err_and, none_more, no_item, one_more, fewer}
use Rattle.ddl_grammar_laws.proofs.TableLaws.{checks_apart}
use Rattle.ddl_relations.proofs.tables.checks.Goals as goal

pub returns-then-not-is_word : goal.returns-then-not-is_word
returns-then-not-is_word c = none_more c.checks.invariant cc

pub returns-in_err-check : goal.returns-in_err-check
returns-in_err-check c =
    let p = err_from_is_err_and c.from_residual.result c.from_residual.ensures.1 in
    rw (p.1, p.2) (no_item c.checks.invariant _ (cc) c.in_err-check.ensures)

pub checks-smaller : goal.checks-smaller
checks-smaller c = fewer checks_apart (λ x. x) c.args.pieces.now tt c.checks.at (c.in_ok-check.check, c.in_ok-check.next) (cc) c.in_ok-check.ensures

pub checks-preserved : goal.checks-preserved
checks-preserved c = rw c.in_ok-push.ensures.items (one_more c.checks.invariant checks_apart (λ x. x) (c.in_ok-check.check, c.in_ok-check.next) (cc) c.in_ok-check.ensures)
