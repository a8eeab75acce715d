use Rattle.std.proofs.Common.{◌≡◌, sym, ap, ◌∙◌, rules}
use Rattle.std.specs.FinMap.{get}
use Rattle.std.specs.Map.{lookup}
use Rattle.std.specs.Ordering.{eq_by_cmp}
use Rattle.cat_model.proofs.MapsSeen.{got_seen}
use Rattle.object_ids.specs.Slots.{slot_cmp}
use Rattle.object_ids.specs.Ids.{IdsOf}
use Rattle.object_ids.proofs.Apart.{slot_cmp_total, slot_cmp-IsAntisymmetric}
use Rattle.object_ids.proofs.ids.Ids.get.Goals as goal

pub returns : goal.returns
returns c =
    let found : c.copied.result ≡ lookup (eq_by_cmp slot_cmp c.args.slot.now) c.self.inside.ids.entries = search rules in
    found
    ∙ sym (got_seen slot_cmp_total slot_cmp-IsAntisymmetric c.self.inside.ids.entries c.args.slot.now)
    ∙ ap (λ (i : IdsOf). get i.ids c.args.slot.now) c.self.view_is
