use Rattle.std.proofs.Common.{length, ap, ◌∙◌}
use Rattle.std.specs.Option.{option_and_then}
use Rattle.ddl_read.specs.Reading.{statements_of}
use Rattle.constraint_table.specs.Said.{only_statement, said_by, constraint_said}
use Rattle.constraint_table.proofs.constraint_text.constraint_said.Goals as goal

pub returns : goal.returns
unfolding constraint_said
returns c = c.in_ok-said.ensures ∙ ap (λ t. option_and_then said_by (only_statement (length t) (statements_of t))) (c.deref.ensures.value ∙ c.in_ok-text.ensures)
