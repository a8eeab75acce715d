use Rattle.std.proofs.Common.{◌≡◌, ◌==◌, ℕ, ◌&&◌, not, is_some, sym, ap, ◌∙◌, rules}
use Rattle.std.specs.FinMap.{get}
use Rattle.std.specs.FinSet.{contains}
use Rattle.std.specs.List.{list_any}
use Rattle.std.specs.Map.{lookup}
use Rattle.std.specs.Ordering.{eq_by_cmp}
use Rattle.cat_model.proofs.MapsSeen.{got_seen}
use Rattle.object_ids.specs.Slots.{slot_cmp, table_of}
use Rattle.object_ids.specs.Ids.{IdsOf, row_cmp}
use Rattle.object_ids.proofs.Apart.{slot_cmp_total, slot_cmp-IsAntisymmetric}
use Rattle.object_ids.proofs.Seen.{has_row}
use Rattle.object_ids.proofs.ids.Ids.fits.Goals as goal

pub returns : goal.returns
returns c =
    let slot = c.args.slot.now in
    let oid = c.args.oid in
    let es = c.self.inside.ids.entries in
    let ks = c.self.inside.rows.keys in
    let found : c.contains_key-has.result ≡ is_some (lookup (eq_by_cmp slot_cmp slot) es) = search rules in
    let row : c.contains-taken.result ≡ list_any (eq_by_cmp row_cmp (c.table.result, oid)) ks = search rules in
    let has : c.contains_key-has.result ≡ is_some (get c.args.self.now.ids slot) = found ∙ ap is_some (sym (got_seen slot_cmp_total slot_cmp-IsAntisymmetric es slot)) ∙ ap (λ (i : IdsOf). is_some (get i.ids slot)) c.self.view_is in
    let taken : c.contains-taken.result ≡ contains c.args.self.now.rows (table_of slot, oid) = row ∙ sym (has_row ks (c.table.result, oid)) ∙ ap (λ (i : IdsOf). contains i.rows (c.table.result, oid)) c.self.view_is ∙ ap (λ (t : ℕ). contains c.args.self.now.rows (t, oid)) c.table.ensures in
    c.none_of.ensures ∙ (λ i. not (has i) && not (taken i) && not (oid == 0))
