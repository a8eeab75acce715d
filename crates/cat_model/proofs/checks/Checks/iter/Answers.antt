use Rattle.std.proofs.Common.{sym, ap, ◌∙◌}
use Rattle.std.specs.FinMap.{FinMap, entries}
use Rattle.std.specs.Cmp.Lexicographic.{nat_list_cmp_total}
use Rattle.cat_model.specs.HolderLaws.{bytes_cmp-IsAntisymmetric}
use Rattle.cat_model.specs.Holders.{Bytes, bytes_cmp}
use Rattle.cat_model.proofs.MapsSeen.{entries_seen}
use Rattle.cat_model.proofs.checks.Checks.iter.Goals as goal

pub returns : goal.returns
returns c =
    c.iter.ensures.rest
    ∙ sym (entries_seen nat_list_cmp_total bytes_cmp-IsAntisymmetric c.self.inside.texts.entries c.iter.ensures.ordered)
    ∙ ap (λ (m : FinMap bytes_cmp Bytes). entries m) c.self.view_is
