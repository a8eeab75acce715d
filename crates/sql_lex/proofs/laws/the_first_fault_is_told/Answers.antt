use Rattle.sql_lex.proofs.TextLaws.{tokens_fail}
use Rattle.sql_lex.proofs.laws.the_first_fault_is_told.Goals as goal

pub returns : goal.returns
returns c = tokens_fail
