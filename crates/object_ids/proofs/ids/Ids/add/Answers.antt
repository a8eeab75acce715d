use Rattle.std.proofs.Common.{◌≡◌, ℕ, ap, ◌∙◌}
use Rattle.std.proofs.lemmas.Result.{on_ok_weaker}
use Rattle.std.specs.FinSet.{contains, from_list, insert}
use Rattle.object_ids.specs.Slots.{table_of}
use Rattle.object_ids.specs.Ids.{IdsOf, row_cmp, added}
use Rattle.object_ids.proofs.Seen.{ids_seen, rows_seen}
use Rattle.object_ids.proofs.Steps.{row_failed, either_put, added_seen}
use Rattle.object_ids.proofs.ids.Ids.add.Goals as goal

pub invariant_of-self-in_err-put_row : goal.invariant_of-self-in_err-put_row
invariant_of-self-in_err-put_row c = row_failed c.self.inside.ids.entries c.self.inside.rows.keys c.self.inside.used c.put.new.self c.args.oid c.self.invariant c.in_ok-put.ensures.ok c.put_row.new.rows.keys c.in_err-put_row.ensures.err

pub invariant_of-self-2 : goal.invariant_of-self-2
invariant_of-self-2 c =
    let s = c.args.slot.now in
    let oid = c.args.oid in
    let es = c.self.inside.ids.entries in
    let ks = c.self.inside.rows.keys in
    let js = c.put_row.new.rows.keys in
    let fs = c.put_id.new.ids.entries in
    let rows : from_list {R = row_cmp} js ≡ insert (from_list ks) (table_of s, oid) = rows_seen ks js (c.table.result, oid) c.in_ok-put_row.ensures.ok.0 ∙ ap (λ (t : ℕ). insert (from_list {R = row_cmp} ks) (t, oid)) c.table.ensures in
    either_put es ks c.self.inside.used c.put.new.self oid c.self.invariant c.in_ok-put.ensures.ok s js rows
    (ap (λ (i : IdsOf). contains i.rows (table_of s, oid)) c.self.view_is ∙ c.requires.free) c.requires.some
    c.put_id.result fs (on_ok_weaker c.put_id.result (λ updates. ids_seen es fs s oid updates.0) c.put_id.ensures.ok) c.put_id.ensures.err

pub returns-clause-ok : goal.returns-clause-ok
returns-clause-ok c =
    let s = c.args.slot.now in
    let oid = c.args.oid in
    let es = c.self.inside.ids.entries in
    let ks = c.self.inside.rows.keys in
    let js = c.put_row.new.rows.keys in
    let fs = c.put_id.new.ids.entries in
    let rows : from_list {R = row_cmp} js ≡ insert (from_list ks) (table_of s, oid) = rows_seen ks js (c.table.result, oid) c.in_ok-put_row.ensures.ok.0 ∙ ap (λ (t : ℕ). insert (from_list {R = row_cmp} ks) (t, oid)) c.table.ensures in
    on_ok_weaker c.put_id.result
    (λ updates. added_seen es ks c.self.inside.used c.put.new.self oid c.self.invariant c.in_ok-put.ensures.ok s js rows fs (ids_seen es fs s oid updates.0) ∙ ap (λ (i : IdsOf). added i s oid) c.self.view_is)
    c.put_id.ensures.ok
