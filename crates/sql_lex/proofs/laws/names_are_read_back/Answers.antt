use Rattle.sql_lex.proofs.WriteLaws.{name_is_read}
use Rattle.sql_lex.proofs.laws.names_are_read_back.Goals as goal

pub returns : goal.returns
returns c = name_is_read
