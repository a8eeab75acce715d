use Rattle.std.proofs.Common.{sym, subst, ◌∙◌}
use Rattle.script_runs.specs.Export.{CanBeExported}
use Rattle.clone_restores.proofs.scripts.run_on.Goals as goal

pub with_texts-requires : goal.with_texts-requires
with_texts-requires c = subst (CanBeExported c.args.opening.now) (sym c.in_ok-report.ensures.applied ∙ sym c.named.ensures) c.requires
