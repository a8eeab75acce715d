use Rattle.std.proofs.Common.{sym, ap, ◌∙◌}
use Rattle.std.specs.FinMap.{get}
use Rattle.cat_model.specs.KeyLaws.{key_cmp_total, key_cmp-IsAntisymmetric}
use Rattle.cat_model.specs.Values.{Named}
use Rattle.cat_model.proofs.MapsSeen.{got_seen}
use Rattle.eng_map.proofs.named_map.NamedMap.get.Goals as goal

pub returns : goal.returns
returns c =
    c.get.ensures.value
    ∙ sym (got_seen key_cmp_total key_cmp-IsAntisymmetric c.self.inside.values.entries c.args.key.now)
    ∙ ap (λ (m : Named). get m c.args.key.now) c.self.view_is
