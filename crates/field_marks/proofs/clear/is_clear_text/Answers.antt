use Rattle.field_marks.proofs.Plain.{plain_is_clear}
use Rattle.field_marks.proofs.clear.is_clear_text.Goals as goal

pub returns-then-is_plain : goal.returns-then-is_plain
returns-then-is_plain c = λ yes. plain_is_clear c.args.text.now (c.is_plain.ensures c.if-is_plain.true)
