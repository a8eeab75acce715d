use Rattle.sql_lex.proofs.LongestLaws.{longest}
use Rattle.sql_lex.proofs.laws.the_longest_is_taken.Goals as goal

pub returns : goal.returns
returns c = longest
