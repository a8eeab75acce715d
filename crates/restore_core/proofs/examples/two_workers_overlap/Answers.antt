use Rattle.std.proofs.Common.{take, refl}
use Rattle.restore_core.specs.Examples.{schemas_apart, both_at_once}
use Rattle.restore_core.proofs.Computed.{phases-are, is-legal}
use Rattle.restore_core.proofs.examples.two_workers_overlap.Goals as goal

pub returns : goal.returns
returns c = record {
  legal = is-legal schemas_apart both_at_once refl;
  both_run = phases-are schemas_apart (take 2 both_at_once);
  second_first = phases-are schemas_apart (take 3 both_at_once);
  all = phases-are schemas_apart both_at_once;
}
