use Rattle.std.proofs.Common.{ap}
use Rattle.dump_tools.specs.Runs.{Run}
use Rattle.clone_tools.proofs.Joining.{goes_on}
use Rattle.clone_tools.proofs.laws.a_clone_leaves_its_dump.Goals as goal

pub returns : goal.returns
returns c = λ teller due first second run is whole may.
    let goes = goes_on teller due first second run is whole may in
    (goes.later.outputs, ap (λ (r : Run). r.outputs) goes.is)
