use Rattle.std.proofs.Common.{drop, sym, ap, ◌∙◌}
use Rattle.sql_lex.specs.Ends.{fraction_end}
use Rattle.sql_lex.proofs.Scans.{number_parts}
use Rattle.sql_lex.proofs.ends.number_end.Goals as goal

pub returns-clause-end : goal.returns-clause-end
returns-clause-end c =
    c.fraction_end.ensures.end ∙ ap (λ k. fraction_end k (drop k c.args.text.now)) c.digits_end-whole.ensures.end ∙ sym (number_parts c.args.text.now c.args.at)
