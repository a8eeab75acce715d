use Rattle.std.proofs.Common.{ℕ, ◌+◌, drop, sym, ◌∙◌, arith}
use Rattle.std.specs.Prelude.{◌==◌}
use Rattle.sql_lex.proofs.Scans.{found, not_found, quote_found, quote_stays, quote_closed, quote_again}
use Rattle.sql_lex.proofs.ends.quote_end.Goals as goal

pub returns-then-not-stands-clause-end : goal.returns-then-not-stands-clause-end
returns-then-not-stands-clause-end c =
    let text = c.args.text.now in
    let next : ℕ = c.quotes.at + c.in-Some.len + 1 in
    let f = found (λ b. b == c.args.quote) text c.quotes.at c.in-Some.len c.in-Some.ensures in
    sym (quote_found c.args.quote text c.quotes.at c.in-Some.len f ∙ quote_closed c.args.quote next (drop next text) (sym c.stands.ensures.value ∙ c.if-not-stands.true)) ∙ c.quotes.invariant.same

pub quotes-preserved : goal.quotes-preserved
quotes-preserved c =
    let text = c.args.text.now in
    let next : ℕ = c.quotes.at + c.in-Some.len + 1 in
    let f = found (λ b. b == c.args.quote) text c.quotes.at c.in-Some.len c.in-Some.ensures in
    let room = c.stands.ensures.room c.if-not-stands.false in
    record {
      same = sym (quote_found c.args.quote text c.quotes.at c.in-Some.len f ∙ quote_again c.args.quote text next (sym c.stands.ensures.value ∙ c.if-not-stands.false) room) ∙ c.quotes.invariant.same;
      low = omega arith;
      high = omega arith;
    }

pub returns-clause-end : goal.returns-clause-end
returns-clause-end c =
    let text = c.args.text.now in
    sym (quote_stays c.args.quote text c.quotes.at (not_found (λ b. b == c.args.quote) text c.quotes.at c.in_default.ensures)) ∙ c.quotes.invariant.same
