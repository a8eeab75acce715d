use Rattle.std.proofs.Common.{◌≡◌, ap, ◌∙◌}
use Rattle.exports.specs.Exports.{Exported}
use Rattle.restore_folders.specs.Works.{stops}
use Rattle.restore_folders.proofs.Ready.{restore_exported}
use Rattle.restore_folders.proofs.running.run_work.Goals as goal

pub run_on-requires : goal.run_on-requires
run_on-requires c =
    let a = c.args in
    let parts = c.into_parts-export.ensures in
    let cat : c.rows.result.now ≡ a.work.opening.cat = c.rows.ensures ∙ c.catalogue.ensures ∙ ap (λ (e : Exported). e.cat) parts.export in
    rw (cat, c.new-engine.ensures, parts.named, c.deref.ensures.value) (restore_exported a.work.opening a.work.boot a.teller.now (stops a.how) a.work.entries.items a.work.wanted.items parts.formed parts.meets c.requires.role c.requires.fit)
