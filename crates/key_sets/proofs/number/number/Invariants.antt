-- All bytes so far are digits, and theirs is the number so far, as far as it fits.
use Rattle.std.proofs.Common.{◌≡◌, min, take, true}
use Rattle.std.specs.List.{list_all}
use Rattle.key_sets.specs.Numbers.{is_digit, longest, number_of}
use Rattle.key_sets.proofs.number.number.Given as goal

abbrev pub invariant-loop-digit : goal.invariant-loop-digit
invariant-loop-digit l = (list_all is_digit (take l.digit-index l.key) ≡ true) × (l.n ≡ min (number_of (take l.digit-index l.key)) longest)
