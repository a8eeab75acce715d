use Rattle.std.proofs.Common.{ap, ◌∙◌}
use Rattle.std.specs.FinMap.{remove}
use Rattle.cat_model.specs.HolderLaws.{holder_cmp_total, holder_cmp-IsAntisymmetric}
use Rattle.cat_model.specs.Values.{Grants}
use Rattle.cat_model.proofs.MapsSeen.{taken_seen}
use Rattle.cat_model.proofs.grants.Grants.take.Goals as goal

pub returns : goal.returns
returns c =
    taken_seen holder_cmp_total holder_cmp-IsAntisymmetric c.self.inside.items.entries c.remove.new.self.entries c.args.holder.now c.remove.ensures.updates.0
    ∙ ap (λ (g : Grants). remove g c.args.holder.now) c.self.view_is
