-- What is left is trimmed to what the whole text is.
use Rattle.std.proofs.Common.{◌≡◌, length}
use Rattle.cat_model.specs.FieldTypes.{trimmed}
use Rattle.field_values.proofs.compared.trimmed.Given as goal

abbrev pub invariant-loop-last : goal.invariant-loop-last
invariant-loop-last l = trimmed l.left ≡ trimmed l.text

abbrev pub decreases-loop-last : goal.decreases-loop-last
decreases-loop-last l = length l.left
