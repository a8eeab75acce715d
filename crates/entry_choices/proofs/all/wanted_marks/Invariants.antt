use Rattle.std.proofs.Common.{◌≡◌, map, take, reverse}
use Rattle.std.specs.List.{range_with_len}
use Rattle.entry_choices.specs.Books.{Knows}
use Rattle.entry_choices.specs.Choices.{wanted}
use Rattle.entry_choices.proofs.all.wanted_marks.Given as goal

abbrev pub invariant-loop-entry : goal.invariant-loop-entry
invariant-loop-entry l = Knows l.options (reverse (take l.entry-index l.entries)) l.book × (l.marks.items ≡ map (wanted l.options l.entries) (range_with_len 0 l.entry-index))
