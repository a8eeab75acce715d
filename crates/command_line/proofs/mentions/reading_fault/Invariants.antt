use Rattle.std.proofs.Common.{◌≡◌}
use Rattle.command_line.specs.Mentions.{fault_of, size_of}
use Rattle.command_line.specs.Steps.{left}
use Rattle.command_line.proofs.mentions.reading_fault.Given as goal

abbrev pub invariant-words : goal.invariant-words
invariant-words l = fault_of (left l.reader) ≡ fault_of (left l.initial.reader)

abbrev pub decreases-words : goal.decreases-words
decreases-words l = size_of (left l.reader)
