use Rattle.std.proofs.Common.{◌∙◌}
use Rattle.std.proofs.lemmas.Bool.{lt-ltb}
use Rattle.restore_queue.proofs.Turns.{turn-is}
use Rattle.restore_queue.proofs.choosing.turn_of.Goals as goal

pub returns : goal.returns
returns c = λ s are.
    let a = c.args in
    c.turn_in.ensures ∙ turn-is a.plan.now a.phases.now a.waits.now a.met.now a.marks.now a.running.now s a.worker are c.requires.kept (lt-ltb a.worker 64 c.requires.worker)
