use Rattle.std.proofs.Common.{sym, ap, ◌∙◌}
use Rattle.std.specs.FinMap.{get}
use Rattle.cat_model.specs.HolderLaws.{holder_cmp_total, holder_cmp-IsAntisymmetric}
use Rattle.cat_model.specs.Values.{Grants}
use Rattle.cat_model.proofs.MapsSeen.{got_seen}
use Rattle.cat_model.proofs.grants.Grants.get.Goals as goal

pub returns : goal.returns
returns c =
    c.copied.ensures
    ∙ c.get.ensures.value
    ∙ sym (got_seen holder_cmp_total holder_cmp-IsAntisymmetric c.self.inside.items.entries c.args.holder.now)
    ∙ ap (λ (g : Grants). get g c.args.holder.now) c.self.view_is
