use Rattle.line_fields.proofs.ClearLines.{data_lines_are_texts}
use Rattle.line_fields.proofs.clear.has_text_lines.Goals as goal

pub returns-in-Ok : goal.returns-in-Ok
returns-in-Ok c = λ yes. data_lines_are_texts c.args.text.now c.in-Ok.ensures.cases.1
