use Rattle.sql_lex.proofs.TextLaws.{tokens_are}
use Rattle.sql_lex.proofs.laws.tokens_follow_one_another.Goals as goal

pub returns : goal.returns
returns c = tokens_are
