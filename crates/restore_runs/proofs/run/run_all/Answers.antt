use Rattle.std.proofs.Common.{ap, sym, ◌∙◌}
use Rattle.restore_runs.specs.Endings.{ended, passed}
use Rattle.restore_runs.proofs.run.run_all.Goals as goal

pub returns : goal.returns
returns c =
    ap (passed c.args.teller.now c.args.entries.now) c.in_ok-came.ensures
    ∙ (λ i. ended c.restore_serial.new.engine.named (sym c.in_ok-told_of.ensures.report i) (sym c.in_ok-told_of.ensures.errors i) (sym c.in_ok-told_of.ensures.on i))
