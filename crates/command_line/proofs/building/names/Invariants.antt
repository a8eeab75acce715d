use Rattle.std.proofs.Common.{◌≡◌, ◌++◌}
use Rattle.command_line.specs.Mentions.{values_of, size_of}
use Rattle.command_line.specs.Steps.{left}
use Rattle.command_line.proofs.building.names.Given as goal

abbrev pub invariant-words : goal.invariant-words
invariant-words l = l.names ++ values_of l.option (left l.reader) ≡ values_of l.option (left l.initial.reader)

abbrev pub decreases-words : goal.decreases-words
decreases-words l = size_of (left l.reader)
