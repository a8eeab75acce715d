use Rattle.std.proofs.Common.{◌≡◌, drop}
use Rattle.command_line.specs.Checks.{first_of}
use Rattle.command_line.proofs.checks.first_of.Given as goal

abbrev pub invariant-loop-fault : goal.invariant-loop-fault
invariant-loop-fault l = first_of (drop l.fault-index l.faults) ≡ first_of l.fn.faults
