use Rattle.std.proofs.Common.{◌∙◌}
use Rattle.sql_lex.proofs.Runs.{line_len}
use Rattle.sql_lex.proofs.ends.line_len.Goals as goal

pub returns-clause-len : goal.returns-clause-len
returns-clause-len c = c.unwrap_or.ensures ∙ line_len c.args.text.now c.memchr.result c.memchr.ensures
