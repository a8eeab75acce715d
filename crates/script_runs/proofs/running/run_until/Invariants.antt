-- What the statements to come end with is what all end with, and no stop is noted yet.
use Rattle.std.proofs.Common.{◌≡◌, [], drop}
use Rattle.script_runs.specs.Stopping.{until}
use Rattle.script_runs.proofs.running.run_until.Given as goal

abbrev pub invariant-loop-located : goal.invariant-loop-located
invariant-loop-located l = record {
  none : l.stops.items ≡ [];
  ends : until l.engine.boot (drop l.located-index l.statements) l.engine.named ≡ until l.fn.engine.boot l.statements l.fn.engine.named;
}
