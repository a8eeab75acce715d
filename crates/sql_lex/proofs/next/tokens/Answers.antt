use Rattle.std.proofs.Common.{◌≡◌, Ok, None, sym, ap, ◌∙◌}
use Rattle.std.proofs.lemmas.Result.{err_from_is_err_and}
use Rattle.sql_lex.specs.Next.{next_token_of}
use Rattle.sql_lex.proofs.TextLaws.{all_lie_in}
use Rattle.sql_lex.proofs.Passing.{so_far-done, so_far-failed}
use Rattle.sql_lex.proofs.next.tokens.Goals as goal

pub returns-in_err-token-clause-exact : goal.returns-in_err-token-clause-exact
returns-in_err-token-clause-exact c =
    let p = err_from_is_err_and c.from_residual.result c.from_residual.ensures.1 in
    let failed = so_far-failed c.args.text.now c.loop-tokens.tokens.items c.loop-tokens.at c.in_err-token.field-0.0 c.in_err-token.ensures.exact c.loop-tokens.invariant.so_far in
    rw (p.1, p.2) failed

pub returns-clause-exact : goal.returns-clause-exact
returns-clause-exact c =
    let none : Ok None ≡ next_token_of c.args.text.now c.loop-tokens.at = ap Ok (sym c.in_default.is) ∙ c.in_ok-token.ensures.exact in
    so_far-done c.args.text.now c.loop-tokens.tokens.items c.loop-tokens.at none c.loop-tokens.invariant.so_far

pub returns-clause-within : goal.returns-clause-within
returns-clause-within c = all_lie_in c.args.text.now c.loop-tokens.tokens.items (returns-clause-exact c)
