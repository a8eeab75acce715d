use Rattle.std.proofs.Common.{◌≡◌, ◌≤◌, drop}
use Rattle.command_line.specs.Values.{number_from}
use Rattle.command_line.proofs.values.digits_up_to.Given as goal

abbrev pub invariant-loop-digit : goal.invariant-loop-digit
invariant-loop-digit l =
    record {
      so_far : number_from l.number (drop l.digit-index l.digits) ≡ number_from 0 l.fn.digits;
      small : l.number ≤ l.most;
    }
