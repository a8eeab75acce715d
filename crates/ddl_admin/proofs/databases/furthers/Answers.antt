use Rattle.ddl_admin.proofs.Common.{◌≡◌, true, false, drop, sym, ◌∙◌, err_from_is_err_and, starts, fewer, is_option, furthers}
use Rattle.ddl_grammar_laws.proofs.Further.{furthers_apart, goes_by, ends_at, fails_by}
use Rattle.ddl_admin.proofs.databases.furthers.Goals as goal

pub returns-then-not-named : goal.returns-then-not-named
returns-then-not-named c =
    let ts = c.args.pieces.now in
    let none : starts is_option (drop c.options.at ts) ≡ false = sym c.in_ok-named.ensures ∙ c.if-not-named.true in
    c.options.invariant ∙ ends_at ts c.options.at none

pub returns-in_err-at : goal.returns-in_err-at
returns-in_err-at c =
    let ts = c.args.pieces.now in
    let p = err_from_is_err_and c.from_residual-in_err-at.result c.from_residual-in_err-at.ensures.1 in
    let begins : starts is_option (drop c.options.at ts) ≡ true = sym c.in_ok-named.ensures ∙ c.if-not-named.false in
    rw (p.1, p.2) (fails_by (furthers.read (drop c.args.from ts)) ts c.options.at _ c.options.invariant begins c.in_err-at.ensures)

pub options-smaller : goal.options-smaller
options-smaller c =
    fewer furthers_apart (λ (x : Unit {0}). x) c.args.pieces.now tt c.options.at (tt, c.in_ok-at.at) (sym c.in_ok-named.ensures ∙ c.if-not-named.false) c.in_ok-at.ensures

pub options-preserved : goal.options-preserved
options-preserved c =
    let ts = c.args.pieces.now in
    let begins : starts is_option (drop c.options.at ts) ≡ true = sym c.in_ok-named.ensures ∙ c.if-not-named.false in
    c.options.invariant ∙ goes_by ts c.options.at c.in_ok-at.at begins c.in_ok-at.ensures
