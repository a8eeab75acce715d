use Rattle.std.proofs.Common.{◌∙◌}
use Rattle.copy_text.specs.Marks.{newline}
use Rattle.copy_text.proofs.SearchLemmas.{place_or_end}
use Rattle.copy_text.proofs.line.line_len.Goals as goal

pub returns-clause-value : goal.returns-clause-value
returns-clause-value c = c.unwrap_or.ensures ∙ place_or_end newline c.args.rest.now c.memchr.result c.memchr.ensures
