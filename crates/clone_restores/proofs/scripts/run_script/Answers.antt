use Rattle.std.proofs.Common.{◌≡◌, false, ap, ◌∙◌}
use Rattle.exports.specs.Exports.{Exported}
use Rattle.script_runs.specs.Stopping.{ending}
use Rattle.script_runs.proofs.Kept.{script_exported}
use Rattle.clone_restores.proofs.scripts.run_script.Goals as goal

pub run_on-requires : goal.run_on-requires
unfolding ending
run_on-requires c =
    let w = c.args.work in
    let parts = c.into_parts-export.ensures in
    let cat : c.rows.result.now ≡ w.opening.cat = c.rows.ensures ∙ c.catalogue.ensures ∙ ap (λ (e : Exported). e.cat) parts.export in
    rw (cat, c.new-engine.ensures, parts.named, c.deref.ensures.value) (script_exported w.opening w.boot false w.statements.items parts.formed parts.meets c.requires.role c.requires.fit)
