use Rattle.std.proofs.Common.{arith}
use Rattle.std.proofs.lemmas.Bool.Decides.{nat_tests}
use Rattle.sql_lex.proofs.Scans.{fraction_cells}
use Rattle.sql_lex.proofs.ends.fraction_end.Goals as goal

pub returns-then-is_digit-clause-end : goal.returns-then-is_digit-clause-end
returns-then-is_digit-clause-end c =
    let cells = fraction_cells c.args.text.now c.args.at in
    grind (arith, nat_tests)

pub returns-else-at-text-clause-end : goal.returns-else-at-text-clause-end
returns-else-at-text-clause-end c =
    let cells = fraction_cells c.args.text.now c.args.at in
    grind (arith, nat_tests)
