use Rattle.ddl_pieces.proofs.Common.{◌≡◌, true, sym, arith, list_all, is_digit}
use Rattle.ddl_pieces.proofs.DigitParsing.{small, large}
use Rattle.ddl_pieces.proofs.numbers.digits_below.Goals as goal

pub returns-in-Ok-parse-clause-exact : goal.returns-in-Ok-parse-clause-exact
returns-in-Ok-parse-clause-exact c =
    let digits : list_all is_digit c.args.word.now ≡ true = cc in
    sym (small _ _ _ _ _ c.requires.some digits c.in-Ok.ensures.cases.0 c.parse.ensures.value.0 c.in-Ok-parse.is (omega (arith, c.if-number-limit.true)))

pub returns-in_default-parse-clause-exact : goal.returns-in_default-parse-clause-exact
returns-in_default-parse-clause-exact c =
    let digits : list_all is_digit c.args.word.now ≡ true = cc in
    sym (large _ _ _ _ _ c.requires.some digits c.in-Ok.ensures.cases.0 c.parse.ensures.value.0 c.in-Ok-parse.is (omega (arith, c.if-number-limit.false)))
