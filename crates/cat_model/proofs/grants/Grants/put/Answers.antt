use Rattle.std.proofs.Common.{ap, ◌∙◌}
use Rattle.std.specs.FinMap.{insert}
use Rattle.cat_model.specs.HolderLaws.{holder_cmp_total, holder_cmp-IsAntisymmetric}
use Rattle.cat_model.specs.Values.{Grants}
use Rattle.cat_model.proofs.MapsSeen.{set_seen}
use Rattle.cat_model.proofs.grants.Grants.put.Goals as goal

pub returns-clause-ok : goal.returns-clause-ok
returns-clause-ok c =
    set_seen holder_cmp_total holder_cmp-IsAntisymmetric c.self.inside.items.entries c.insert.new.self.entries c.args.holder c.args.item c.in_ok-insert.ensures.updates.0
    ∙ ap (λ (g : Grants). insert g c.args.holder c.args.item) c.self.view_is
