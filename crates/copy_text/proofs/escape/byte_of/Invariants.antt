use Rattle.std.proofs.Common.{◌≡◌, take}
use Rattle.copy_text.specs.Escapes.{byte_of_digits}
use Rattle.copy_text.proofs.escape.byte_of.Given as goal

abbrev pub invariant-loop-digit : goal.invariant-loop-digit
invariant-loop-digit l = l.number ≡ byte_of_digits l.base (take l.digit-index l.digits)
