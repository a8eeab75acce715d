use Rattle.std.proofs.Common.{ap, ◌∙◌}
use Rattle.std.specs.FinMap.{FinMap, insert}
use Rattle.std.specs.Cmp.Lexicographic.{nat_list_cmp_total}
use Rattle.cat_model.specs.HolderLaws.{bytes_cmp-IsAntisymmetric}
use Rattle.cat_model.specs.Holders.{Bytes, bytes_cmp}
use Rattle.cat_model.proofs.MapsSeen.{set_seen}
use Rattle.cat_model.proofs.checks.Checks.put.Goals as goal

pub returns-clause-ok : goal.returns-clause-ok
returns-clause-ok c =
    set_seen nat_list_cmp_total bytes_cmp-IsAntisymmetric c.self.inside.texts.entries c.insert.new.self.entries c.args.name c.args.text c.in_ok-insert.ensures.updates.0
    ∙ ap (λ (m : FinMap bytes_cmp Bytes). insert m c.args.name c.args.text) c.self.view_is
