use Rattle.restore_core.specs.Machine.{first, after}
use Rattle.restore_core.proofs.SomeEnabled.{some-enabled}
use Rattle.restore_core.proofs.laws.some_event_is_enabled.Goals as goal
use Rattle.restore_core.proofs.SameAsSerial.{same-as-serial}

pub returns : goal.returns
returns c = λ boot opening ps events legal h. some-enabled (after boot (first opening ps) events) h
