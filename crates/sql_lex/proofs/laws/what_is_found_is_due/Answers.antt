use Rattle.sql_lex.proofs.TextLaws.{next_found}
use Rattle.sql_lex.proofs.laws.what_is_found_is_due.Goals as goal

pub returns : goal.returns
returns c = next_found
