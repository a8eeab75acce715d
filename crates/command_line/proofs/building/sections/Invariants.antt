use Rattle.std.proofs.Common.{◌≡◌, ◌++◌}
use Rattle.command_line.specs.declared.options.Opt.TheVariants as opt
use Rattle.command_line.specs.Commands.{sections_of}
use Rattle.command_line.specs.Mentions.{values_of, size_of}
use Rattle.command_line.specs.Steps.{left}
use Rattle.command_line.proofs.building.sections.Given as goal

abbrev pub invariant-words : goal.invariant-words
invariant-words l = l.sections ++ sections_of (values_of opt.Section (left l.reader)) ≡ sections_of (values_of opt.Section (left l.initial.reader))

abbrev pub decreases-words : goal.decreases-words
decreases-words l = size_of (left l.reader)
