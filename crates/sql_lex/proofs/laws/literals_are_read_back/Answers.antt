use Rattle.sql_lex.proofs.WriteLaws.{literal_is_read}
use Rattle.sql_lex.proofs.laws.literals_are_read_back.Goals as goal

pub returns : goal.returns
returns c = literal_is_read
