use Rattle.std.proofs.Common.{ap, sym, ◌∙◌}
use Rattle.restore_runs.specs.Endings.{ended, halted}
use Rattle.restore_runs.specs.Reports.{stop_told}
use Rattle.restore_runs.proofs.run.run_to_stop.Goals as goal

pub returns : goal.returns
returns c =
    let teller = c.args.teller.now in
    let named = c.restore_until.new.engine.named in
    ap (halted teller) c.in_ok-note.ensures
    ∙ (λ i. ended named (stop_told teller (sym c.in_ok-stopped.ensures i)) 0 (sym c.in_ok-stopped.ensures i))
    ∙ (λ i. ended named (sym c.in_ok-told_stop.ensures.report i) (sym c.in_ok-told_stop.ensures.errors i) (sym c.in_ok-told_stop.ensures.stopped i))
