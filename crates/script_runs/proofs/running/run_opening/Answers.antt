use Rattle.std.proofs.Common.{◌≡◌, ap, ◌∙◌}
use Rattle.openings.specs.Exports.{Exported}
use Rattle.script_runs.proofs.Kept.{script_exported}
use Rattle.script_runs.proofs.running.run_opening.Goals as goal

pub run_on-requires : goal.run_on-requires
run_on-requires c =
    let a = c.args in
    let parts = c.into_parts-export.ensures in
    let cat : c.rows.result.now ≡ a.opening.cat = c.rows.ensures ∙ c.catalogue.ensures ∙ ap (λ (e : Exported). e.cat) parts.export in
    rw (cat, c.new-engine.ensures, parts.named) (script_exported a.opening a.boot a.stop a.statements.now parts.formed parts.meets c.requires.role c.requires.fit)
