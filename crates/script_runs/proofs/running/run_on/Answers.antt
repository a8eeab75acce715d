use Rattle.std.proofs.Common.{sym, ap, subst, ◌∙◌}
use Rattle.opening_written.specs.Export.{CanBeExported}
use Rattle.script_runs.specs.Stopping.{Ending}
use Rattle.script_runs.proofs.running.run_on.Goals as goal

pub with_texts-requires : goal.with_texts-requires
with_texts-requires c = subst (CanBeExported c.args.opening.now) (ap (λ (e : Ending). e.left) c.in_ok-told.ensures.ends ∙ sym c.named.ensures) c.requires
