use Rattle.ddl_relations.proofs.Common.{err_from_is_err_and, none_more, no_item, one_more}
use Rattle.ddl_grammar_laws.proofs.TableLaws.{labels_apart}
use Rattle.ddl_relations.proofs.tables.labels.Goals as goal

pub returns-then-not-begins_label : goal.returns-then-not-begins_label
returns-then-not-begins_label c = none_more c.labels.invariant cc

pub returns-in_err-label : goal.returns-in_err-label
returns-in_err-label c =
    let p = err_from_is_err_and c.from_residual.result c.from_residual.ensures.1 in
    rw (p.1, p.2) (no_item c.labels.invariant _ (cc) c.in_err-label.ensures)

pub labels-preserved : goal.labels-preserved
labels-preserved c = rw c.in_ok-push.ensures.items (one_more c.labels.invariant labels_apart (λ t. t) (c.in_ok-label.label, c.in_ok-label.next) (cc) c.in_ok-label.ensures)
