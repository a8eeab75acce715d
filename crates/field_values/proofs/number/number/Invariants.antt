-- The number of the digits so far, as far as it fits.
use Rattle.std.proofs.Common.{◌≡◌, min, take}
use Rattle.cat_model.specs.FieldTypes.{number_of}
use Rattle.field_values.specs.Seen.{longest}
use Rattle.field_values.proofs.number.number.Given as goal

abbrev pub invariant-loop-digit : goal.invariant-loop-digit
invariant-loop-digit l = l.n ≡ min (number_of (take l.digit-index l.digits)) longest
