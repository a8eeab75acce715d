use Rattle.std.proofs.Common.{◌≤◌, List, length, arith}
use Rattle.cat_model.specs.Values.{Bytes, Named}
use Rattle.restore_plan.specs.declared.planned.Planned.{Planned}
use Rattle.restore_core.specs.declared.event.Event.{Event}
use Rattle.restore_core.specs.Machine.{first, IsLegal}
use Rattle.restore_turns.specs.Measures.{most_events}
use Rattle.restore_turns.proofs.Histories.{bounded, whole}
use Rattle.restore_turns.proofs.laws.histories_are_bounded.Goals as goal

from-first : (boot : Bytes) (opening : Named) (ps : List Planned) (events : List Event) → IsLegal boot (first opening ps) events → length events ≤ most_events ps
from-first boot opening ps events legal =
    let all = bounded boot (first opening ps) events legal in
    let is = whole opening ps in
    omega arith

pub returns : goal.returns
returns c = record { rest = bounded; most = from-first }
