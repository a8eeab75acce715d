use Rattle.std.proofs.Common.{◌≡◌, ℕ, ◌≤◌, Some, ap, subst, ◌∙◌, arith}
use Rattle.std.specs.FinSet as set
use Rattle.std.specs.FinSet.{from_list, insert}
use Rattle.eng_tables.specs.Oids.{IsLeastUnused, with_oid}
use Rattle.object_ids.specs.Slots.{table_of}
use Rattle.object_ids.specs.Ids.{IdsOf, row_cmp, added}
use Rattle.object_ids.proofs.Apart.{unused_free}
use Rattle.object_ids.proofs.Seen.{ids_seen, rows_seen}
use Rattle.object_ids.proofs.Steps.{seen, row_failed, id_failed, id_put, added_seen}
use Rattle.object_ids.proofs.ids.Ids.draw.Goals as goal

from_first : (oid : ℕ) → 16384 ≤ oid → oid ≡ 0 → ⊥
from_first oid first zero = omega arith

pub invariant_of-self-in_err-put_row-in-Some : goal.invariant_of-self-in_err-put_row-in-Some
invariant_of-self-in_err-put_row-in-Some c =
    let oid = c.in-Some.oid in
    let u = c.self.inside.used in
    let used : c.take.new.self ≡ insert u oid = c.in_ok-oid.ensures.used ∙ ap (with_oid u) c.in-Some.is in
    row_failed c.self.inside.ids.entries c.self.inside.rows.keys u c.take.new.self oid c.self.invariant used c.put_row.new.rows.keys c.in_err-put_row-in-Some.ensures.err

pub invariant_of-self-in_err-put_id-in-Some : goal.invariant_of-self-in_err-put_id-in-Some
invariant_of-self-in_err-put_id-in-Some c =
    let s = c.args.slot.now in
    let oid = c.in-Some.oid in
    let u = c.self.inside.used in
    let ks = c.self.inside.rows.keys in
    let js = c.put_row.new.rows.keys in
    let used : c.take.new.self ≡ insert u oid = c.in_ok-oid.ensures.used ∙ ap (with_oid u) c.in-Some.is in
    let rows : from_list {R = row_cmp} js ≡ insert (from_list ks) (table_of s, oid) = rows_seen ks js (c.table.result, oid) c.in_ok-put_row-in-Some.ensures.ok.0 ∙ ap (λ (t : ℕ). insert (from_list {R = row_cmp} ks) (t, oid)) c.table.ensures in
    id_failed c.self.inside.ids.entries ks u c.take.new.self oid c.self.invariant used s js rows c.put_id.new.ids.entries c.in_err-put_id-in-Some.ensures.err

pub invariant_of-self-in-Some : goal.invariant_of-self-in-Some
invariant_of-self-in-Some c =
    let s = c.args.slot.now in
    let oid = c.in-Some.oid in
    let u = c.self.inside.used in
    let es = c.self.inside.ids.entries in
    let ks = c.self.inside.rows.keys in
    let js = c.put_row.new.rows.keys in
    let fs = c.put_id.new.ids.entries in
    let least : IsLeastUnused u (Some oid) = subst (IsLeastUnused u) c.in-Some.is c.in_ok-oid.ensures.least in
    let used : c.take.new.self ≡ insert u oid = c.in_ok-oid.ensures.used ∙ ap (with_oid u) c.in-Some.is in
    let rows : from_list {R = row_cmp} js ≡ insert (from_list ks) (table_of s, oid) = rows_seen ks js (c.table.result, oid) c.in_ok-put_row-in-Some.ensures.ok.0 ∙ ap (λ (t : ℕ). insert (from_list {R = row_cmp} ks) (t, oid)) c.table.ensures in
    id_put es ks u c.take.new.self oid c.self.invariant used s js rows (unused_free (seen es ks u) c.self.invariant (table_of s) oid least.1) (from_first oid least.0) fs (ids_seen es fs s oid c.in_ok-put_id-in-Some.ensures.ok.0)

pub returns-in_ok-put_id-in-Some-clause-ok : goal.returns-in_ok-put_id-in-Some-clause-ok
returns-in_ok-put_id-in-Some-clause-ok c =
    let s = c.args.slot.now in
    let oid = c.in-Some.oid in
    let u = c.self.inside.used in
    let es = c.self.inside.ids.entries in
    let ks = c.self.inside.rows.keys in
    let js = c.put_row.new.rows.keys in
    let fs = c.put_id.new.ids.entries in
    let least : IsLeastUnused u (Some oid) = subst (IsLeastUnused u) c.in-Some.is c.in_ok-oid.ensures.least in
    let used : c.take.new.self ≡ insert u oid = c.in_ok-oid.ensures.used ∙ ap (with_oid u) c.in-Some.is in
    let rows : from_list {R = row_cmp} js ≡ insert (from_list ks) (table_of s, oid) = rows_seen ks js (c.table.result, oid) c.in_ok-put_row-in-Some.ensures.ok.0 ∙ ap (λ (t : ℕ). insert (from_list {R = row_cmp} ks) (t, oid)) c.table.ensures in
    (oid, subst (λ (i : IdsOf). IsLeastUnused i.used (Some oid)) c.self.view_is least, added_seen es ks u c.take.new.self oid c.self.invariant used s js rows fs (ids_seen es fs s oid c.in_ok-put_id-in-Some.ensures.ok.0) ∙ ap (λ (i : IdsOf). added i s oid) c.self.view_is)
