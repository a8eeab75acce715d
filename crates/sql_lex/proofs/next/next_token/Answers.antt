use Rattle.std.proofs.Common.{Ok, Some, None, sym, ◌∙◌, arith}
use Rattle.std.proofs.lemmas.Result.{err_from_is_err_and}
use Rattle.sql_lex.proofs.Passing.{next_at_end, next_at_fault, next_at_token, next_at_gap, lies_behind}
use Rattle.sql_lex.proofs.next.next_token.Goals as goal

pub returns-in_err-piece-clause-exact : goal.returns-in_err-piece-clause-exact
returns-in_err-piece-clause-exact c =
    let p = err_from_is_err_and c.from_residual.result c.from_residual.ensures.1 in
    rw (p.1, p.2) (sym (next_at_fault c.args.text.now c.loop-at.at c.in_err-piece.field-0.0 c.loop-at-test.true c.in_err-piece.ensures.exact) ∙ c.loop-at.invariant.same)

pub returns-in-Some-clause-exact : goal.returns-in-Some-clause-exact
returns-in-Some-clause-exact c =
    sym (next_at_token c.args.text.now c.loop-at.at c.in_ok-piece.piece c.in-Some.kind c.loop-at-test.true c.in_ok-piece.ensures.exact c.in-Some.is) ∙ c.loop-at.invariant.same

pub loop-at-preserved : goal.loop-at-preserved
loop-at-preserved c =
    let end = c.in_ok-piece.ensures.end in
    record {
      same = sym (next_at_gap c.args.text.now c.loop-at.at c.in_ok-piece.piece c.loop-at-test.true c.in_ok-piece.ensures.exact c.in_default.is) ∙ c.loop-at.invariant.same;
      low = let low = c.loop-at.invariant.low in omega arith;
      high = end.1;
    }

pub returns-clause-exact : goal.returns-clause-exact
returns-clause-exact c =
    let high = c.loop-at.invariant.high in
    sym (next_at_end c.args.text.now c.loop-at.at (omega arith)) ∙ c.loop-at.invariant.same

pub returns-in_err-piece-clause-within : goal.returns-in_err-piece-clause-within
returns-in_err-piece-clause-within c = lies_behind c.args.text.now c.args.at c.from_residual.result c.requires (returns-in_err-piece-clause-exact c)

pub returns-in-Some-clause-within : goal.returns-in-Some-clause-within
returns-in-Some-clause-within c = lies_behind c.args.text.now c.args.at (Ok (Some (record { kind = c.in-Some.kind; start = c.loop-at.at; end = c.in_ok-piece.piece.end }))) c.requires (returns-in-Some-clause-exact c)

pub returns-clause-within : goal.returns-clause-within
returns-clause-within c = lies_behind c.args.text.now c.args.at (Ok None) c.requires (returns-clause-exact c)
