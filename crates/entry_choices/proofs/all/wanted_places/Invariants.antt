use Rattle.std.proofs.Common.{◌≡◌, take, reverse}
use Rattle.std.specs.List.{range_with_len, filter}
use Rattle.entry_choices.specs.Books.{Knows}
use Rattle.entry_choices.specs.Choices.{wanted}
use Rattle.entry_choices.proofs.all.wanted_places.Given as goal

abbrev pub invariant-loop-i : goal.invariant-loop-i
invariant-loop-i l = Knows l.options (reverse (take l.i l.entries)) l.book × (l.places.items ≡ filter (wanted l.options l.entries) (range_with_len 0 l.i))
