use Rattle.sql_lex.proofs.WriteLaws.{gap_is_passed}
use Rattle.sql_lex.proofs.laws.each_gap_is_passed.Goals as goal

pub returns : goal.returns
returns c = gap_is_passed
