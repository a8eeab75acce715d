use Rattle.std.proofs.Common.{sym, ap, ◌∙◌}
use Rattle.std.specs.FinMap.{FinMap, get}
use Rattle.std.specs.Cmp.Lexicographic.{nat_list_cmp_total}
use Rattle.cat_model.specs.HolderLaws.{bytes_cmp-IsAntisymmetric}
use Rattle.cat_model.specs.Holders.{Bytes, bytes_cmp}
use Rattle.cat_model.proofs.MapsSeen.{got_seen}
use Rattle.cat_model.proofs.checks.Checks.get.Goals as goal

pub returns : goal.returns
returns c =
    c.get.ensures.value
    ∙ sym (got_seen nat_list_cmp_total bytes_cmp-IsAntisymmetric c.self.inside.texts.entries c.args.name.now)
    ∙ ap (λ (m : FinMap bytes_cmp Bytes). get m c.args.name.now) c.self.view_is
