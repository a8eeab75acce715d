use Rattle.line_fields.proofs.ClearLines.{reads_as_pieces}
use Rattle.line_fields.proofs.clear.is_clear.Goals as goal

pub returns-in-None : goal.returns-in-None
returns-in-None c = λ yes text. reads_as_pieces c.args.line.now c.in-None.ensures text
