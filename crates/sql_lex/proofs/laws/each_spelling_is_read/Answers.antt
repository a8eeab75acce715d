use Rattle.sql_lex.proofs.WriteLaws.{spelling_is_read}
use Rattle.sql_lex.proofs.laws.each_spelling_is_read.Goals as goal

pub returns : goal.returns
returns c = spelling_is_read
