-- The row is an orphan, or the next is to be tried.
use Rattle.std.proofs.Common.{◌≡◌, ◌+◌, ◌<◌, Bool, true, false, cond, Some, length, map, drop, ap, sym, ◌∙◌, arith}
use Rattle.cat_model.specs.Tables.{orphan_of}
use Rattle.row_keys.specs.ByPlaces.{key_at}
use Rattle.row_keys.specs.Known.{is_orphan}
use Rattle.row_keys.proofs.Rows.{one_child}
use Rattle.row_keys.proofs.orphans.first_orphan.Goals as goal

pub returns-then-is_orphan : goal.returns-then-is_orphan
returns-then-is_orphan c = λ keys among.
    let key = key_at c.args.columns.now c.args.places.now in
    let rows = c.args.rows.now in
    let row = c.index-rows-i.result in
    let i = c.loop-i.i in
    let below : i < length rows = omega arith in
    let is : is_orphan keys (key row) ≡ true = ap (is_orphan keys) (sym c.in_ok-key.ensures) ∙ sym (c.is_orphan.ensures keys among) ∙ c.if-is_orphan.true in
    sym (c.loop-i.invariant keys among ∙ one_child key rows i row below c.index-rows-i.is (i + 1) keys ∙ ap (λ (b : Bool). cond b (Some (i + 1)) (orphan_of (i + 1 + 1) keys (drop (i + 1) (map key rows)))) is)

pub loop-i-preserved : goal.loop-i-preserved
loop-i-preserved c = λ keys among.
    let key = key_at c.args.columns.now c.args.places.now in
    let rows = c.args.rows.now in
    let row = c.index-rows-i.result in
    let i = c.loop-i.i in
    let below : i < length rows = omega arith in
    let none : is_orphan keys (key row) ≡ false = ap (is_orphan keys) (sym c.in_ok-key.ensures) ∙ sym (c.is_orphan.ensures keys among) ∙ c.if-is_orphan.false in
    c.loop-i.invariant keys among ∙ one_child key rows i row below c.index-rows-i.is (i + 1) keys ∙ ap (λ (b : Bool). cond b (Some (i + 1)) (orphan_of (i + 1 + 1) keys (drop (i + 1) (map key rows)))) none
