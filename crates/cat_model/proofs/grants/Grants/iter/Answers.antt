use Rattle.std.proofs.Common.{sym, ap, ◌∙◌}
use Rattle.std.specs.FinMap.{entries}
use Rattle.cat_model.specs.HolderLaws.{holder_cmp_total, holder_cmp-IsAntisymmetric}
use Rattle.cat_model.specs.Values.{Grants}
use Rattle.cat_model.proofs.MapsSeen.{entries_seen}
use Rattle.cat_model.proofs.grants.Grants.iter.Goals as goal

pub returns : goal.returns
returns c =
    c.iter.ensures.rest
    ∙ sym (entries_seen holder_cmp_total holder_cmp-IsAntisymmetric c.self.inside.items.entries c.iter.ensures.ordered)
    ∙ ap (λ (g : Grants). entries g) c.self.view_is
