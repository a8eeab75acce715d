use Rattle.ddl_relations.proofs.Common.{refl, ◌∙◌, sym, drop, err_from_is_err_and, sequence_clauses}
use Rattle.ddl_grammar_laws.proofs.SequenceLaws.{goes, stops, fails, fewer}
use Rattle.ddl_relations.proofs.sequences.sequence_clauses.Goals as goal

pub clauses-init : goal.clauses-init
unfolding sequence_clauses
clauses-init c = refl

pub returns-then-not-unwrap_or : goal.returns-then-not-unwrap_or
returns-then-not-unwrap_or c = c.clauses.invariant ∙ stops c.clauses.said (drop c.clauses.at c.args.pieces.now) (sym c.unsaid.ensures ∙ sym c.unwrap_or.ensures ∙ c.if-not-unwrap_or.true)

pub returns-in_err-clause : goal.returns-in_err-clause
returns-in_err-clause c =
    let p = err_from_is_err_and c.from_residual.result c.from_residual.ensures.1 in
    rw (p.1, p.2, c.clauses.invariant) (fails c.clauses.said c.args.pieces.now c.clauses.at _ (sym c.unsaid.ensures ∙ sym c.unwrap_or.ensures ∙ c.if-not-unwrap_or.false) c.in_err-clause.ensures)

pub clauses-smaller : goal.clauses-smaller
clauses-smaller c = fewer c.clauses.said c.args.pieces.now c.clauses.at c.in_ok-clause.next c.in_ok-clause.clause (sym c.unsaid.ensures ∙ sym c.unwrap_or.ensures ∙ c.if-not-unwrap_or.false) c.in_ok-clause.ensures

pub clauses-preserved : goal.clauses-preserved
clauses-preserved c =
    let ts = c.args.pieces.now in
    let begins = sym c.unsaid.ensures ∙ sym c.unwrap_or.ensures ∙ c.if-not-unwrap_or.false in
    rw c.with_clause-said.ensures (c.clauses.invariant ∙ goes c.clauses.said (drop c.clauses.at ts) (drop c.in_ok-clause.next ts) c.in_ok-clause.clause begins c.in_ok-clause.ensures)
