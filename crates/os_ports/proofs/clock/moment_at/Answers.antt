-- The date and time is what a clock in UTC shows, whose offset is 0.
use Rattle.std.proofs.Common.{arith}
use Rattle.std.proofs.lemmas.Int.{ints}
use Rattle.os_ports.proofs.clock.moment_at.Goals as goal

pub returns : goal.returns
returns c = (c.to_datetime.result, grind (arith, ints, c.to_datetime.ensures), c.moment_of.ensures)
