use Rattle.std.proofs.Common.{◌≡◌, None}
use Rattle.command_line.specs.Mentions.{last_from, size_of}
use Rattle.command_line.specs.Seen.{places_of}
use Rattle.command_line.specs.Steps.{left}
use Rattle.command_line.proofs.mentions.last.Given as goal

abbrev pub invariant-words : goal.invariant-words
invariant-words l = last_from l.option (places_of l.last) (left l.reader) ≡ last_from l.option None (left l.initial.reader)

abbrev pub decreases-words : goal.decreases-words
decreases-words l = size_of (left l.reader)
