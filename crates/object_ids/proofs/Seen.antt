-- The code's maps and sets, seen as finite ones.
use Rattle.std.proofs.Common.{◌≡◌, ℕ, Bool, true, false, cond, ◌||◌, List, Some, refl, sym, ap, ◌∙◌}
use Rattle.std.specs.Cmp.{eq_by_cmp_equiv}
use Rattle.std.specs.FinMap.{from_entries, insert}
use Rattle.std.specs.FinSet as set
use Rattle.std.specs.List.{list_any}
use Rattle.std.specs.Map.{lookup}
use Rattle.std.specs.Ordering.{eq_by_cmp}
use Rattle.cat_model.proofs.MapsSeen.{set_seen}
use Rattle.object_ids.specs.Slots.{Slot, slot_cmp}
use Rattle.object_ids.specs.Ids.{Row, row_cmp}
use Rattle.object_ids.proofs.Apart.{slot_cmp_total, slot_cmp-IsAntisymmetric, row_cmp_total, row_cmp-IsAntisymmetric}

pub ids_seen : (es fs : List (Slot × ℕ)) (s : Slot) (oid : ℕ) → ((q : Slot) → lookup (eq_by_cmp slot_cmp q) fs ≡ cond (eq_by_cmp slot_cmp s q) (Some oid) (lookup (eq_by_cmp slot_cmp q) es)) → from_entries {R = slot_cmp} fs ≡ insert (from_entries es) s oid
ids_seen es fs s oid h = set_seen slot_cmp_total slot_cmp-IsAntisymmetric es fs s oid h

pub has_row : (ks : List Row) (q : Row) → set.contains (set.from_list {R = row_cmp} ks) q ≡ list_any (eq_by_cmp row_cmp q) ks
has_row ks q = set.contains-from_list row_cmp_total ks q

or_true : (b c : Bool) → cond b true c ≡ (b || c)
or_true true c = refl
or_true false c = refl

pub rows_seen : (ks js : List Row) (k : Row) → ((q : Row) → list_any (eq_by_cmp row_cmp q) js ≡ cond (eq_by_cmp row_cmp k q) true (list_any (eq_by_cmp row_cmp q) ks)) → set.from_list {R = row_cmp} js ≡ set.insert (set.from_list ks) k
rows_seen ks js k h = set.same_set row_cmp_total row_cmp-IsAntisymmetric (set.from_list js) (set.insert (set.from_list ks) k) (λ q.
    has_row js q
    ∙ h q
    ∙ or_true (eq_by_cmp row_cmp k q) (list_any (eq_by_cmp row_cmp q) ks)
    ∙ ap (λ (b : Bool). b || list_any (eq_by_cmp row_cmp q) ks) ((eq_by_cmp_equiv row_cmp_total).symm k q)
    ∙ ap (λ (b : Bool). eq_by_cmp row_cmp q k || b) (sym (has_row ks q))
    ∙ sym (set.contains-insert row_cmp_total (set.from_list ks) k q))
