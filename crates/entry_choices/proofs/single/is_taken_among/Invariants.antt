use Rattle.std.proofs.Common.{◌≡◌, length, reverse}
use Rattle.std.specs.Option.{option_or}
use Rattle.entry_choices.specs.Choices.{is_taken_among}
use Rattle.entry_choices.proofs.single.is_taken_among.Given as goal

abbrev pub invariant-loop-entry : goal.invariant-loop-entry
invariant-loop-entry l = is_taken_among l.options (reverse l.entries) l.id ≡ option_or (is_taken_among l.options (reverse l.rest) l.sought) l.otherwise

abbrev pub decreases-loop-entry : goal.decreases-loop-entry
decreases-loop-entry l = length l.rest
