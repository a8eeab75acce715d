use Rattle.std.proofs.Common.{refl, ap, ◌∙◌}
use Rattle.copy_text.specs.Reading.{field_of}
use Rattle.copy_text.proofs.FieldLemmas.{field_null}
use Rattle.row_fields.proofs.plain.plain_piece.Goals as goal

pub returns-then-is_null_first-clause-field : goal.returns-then-is_null_first-clause-field
returns-then-is_null_first-clause-field c = λ start. ap (field_of start) (c.if-is_null_first.ensures.null refl) ∙ field_null start
