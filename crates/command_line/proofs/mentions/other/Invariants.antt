use Rattle.std.proofs.Common.{◌≡◌}
use Rattle.command_line.specs.Mentions.{other_of, size_of}
use Rattle.command_line.specs.Steps.{left}
use Rattle.command_line.proofs.mentions.other.Given as goal

abbrev pub invariant-words : goal.invariant-words
invariant-words l = other_of l.left (left l.reader) ≡ other_of l.number (left l.initial.reader)

abbrev pub decreases-words : goal.decreases-words
decreases-words l = size_of (left l.reader)
