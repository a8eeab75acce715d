use Rattle.std.proofs.Common.{◌∷◌, [], take, refl}
use Rattle.restore_plan.specs.Examples.{two_schemas}
use Rattle.restore_core.specs.declared.event.Event.TheVariants.{Start, Skip, Step}
use Rattle.restore_core.specs.Examples.{one_after_another}
use Rattle.restore_core.proofs.Computed.{phases-are, enabled-is, is-legal}
use Rattle.restore_core.proofs.examples.the_second_waits.Goals as goal

pub returns : goal.returns
returns c = record {
  legal = is-legal two_schemas one_after_another refl;
  begun = phases-are two_schemas (take 1 one_after_another);
  no_start = enabled-is two_schemas (take 1 one_after_another) (Start 1 1);
  no_skip = enabled-is two_schemas (take 1 one_after_another) (Skip 1);
  idle = enabled-is two_schemas (take 1 one_after_another) (Step 1);
  stepped = phases-are two_schemas (take 2 one_after_another);
  started = phases-are two_schemas (take 3 one_after_another);
  refused = phases-are two_schemas one_after_another;
}
