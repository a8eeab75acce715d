use Rattle.std.proofs.Common.{sym, ◌∙◌}
use Rattle.line_fields.proofs.Walks.{behind_newline, nothing_behind}
use Rattle.line_fields.proofs.walk.behind_line.Goals as goal

pub returns-in-Some-clause-line : goal.returns-in-Some-clause-line
returns-in-Some-clause-line c = c.split_at.ensures.back ∙ sym (behind_newline c.args.text.now c.in-Some.at c.in-Some.ensures.0.high c.in-Some.ensures.0.before c.in-Some.ensures.1)

pub returns-in-None-clause-line : goal.returns-in-None-clause-line
returns-in-None-clause-line c = sym (nothing_behind c.args.text.now c.in-None.ensures)
