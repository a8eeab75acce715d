use Rattle.std.proofs.Common.{◌≡◌, min, take}
use Rattle.list_files.specs.Lines.{value}
use Rattle.list_files.proofs.line.number.Given as goal

abbrev pub invariant-loop-digit : goal.invariant-loop-digit
invariant-loop-digit l = l.value ≡ min (value (take l.digit-index l.digits)) 4294967296
