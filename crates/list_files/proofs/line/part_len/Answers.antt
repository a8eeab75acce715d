use Rattle.std.proofs.Common.{◌∙◌}
use Rattle.copy_text.proofs.SearchLemmas.{place_or_end}
use Rattle.list_files.proofs.line.part_len.Goals as goal

pub returns-clause-value : goal.returns-clause-value
returns-clause-value c = c.unwrap_or.ensures ∙ place_or_end c.args.byte c.args.text.now c.memchr.result c.memchr.ensures
