use Rattle.std.proofs.Common.{Result, Ok, Err, IsOk, OnOk, sym, ap, ◌∙◌}
use Rattle.std.specs.FinMap.{from_entries}
use Rattle.cat_model.specs.KeyLaws.{key_cmp_total, key_cmp-IsAntisymmetric}
use Rattle.cat_model.specs.Trees.{changed_at}
use Rattle.cat_model.proofs.MapsSeen.{set_seen, taken_seen}
use Rattle.eng_map.proofs.named_map.put.Goals as goal

-- what is said of a call that doesn't fail
held : {A E : Type 0} (r : Result A E) (P : Type 0) → IsOk r → OnOk r P → P
held (Ok x) P is h = h
held (Err e) P is h = absurd cc

pub returns-in-Some-clause-seen : goal.returns-in-Some-clause-seen
returns-in-Some-clause-seen c =
    let before = c.args.values.now.entries in
    let updates = held c.insert.result _ (c.insert.ensures.succeeds c.requires) c.insert.ensures.updates in
    set_seen key_cmp_total key_cmp-IsAntisymmetric before c.insert.new.self.entries c.args.change.0 c.in-Some.value updates.0
    ∙ ap (changed_at (from_entries before) c.args.change.0) (sym c.in-Some.is)

pub returns-in-None-clause-seen : goal.returns-in-None-clause-seen
returns-in-None-clause-seen c =
    let before = c.args.values.now.entries in
    taken_seen key_cmp_total key_cmp-IsAntisymmetric before c.swap_remove.new.self.entries c.args.change.0 c.swap_remove.ensures.updates.0
    ∙ ap (changed_at (from_entries before) c.args.change.0) (sym c.in-None.is)
