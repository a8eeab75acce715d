use Rattle.sql_lex.proofs.TextLaws.{next_only}
use Rattle.sql_lex.proofs.laws.what_is_due_is_found.Goals as goal

pub returns : goal.returns
returns c = next_only
