use Rattle.std.proofs.Common.{◌≤◌, length, take, filter_map, sym, ap, subst, arith}
use Rattle.std.proofs.lemmas.List.{take_all}
use Rattle.cat_book.proofs.Placed.{given_more}
use Rattle.constraint_table.specs.KeySets.{AreKeysOn}
use Rattle.constraint_table.specs.Keys.{key_of_constraint}
use Rattle.constraint_table.proofs.keys.constraint_keys.Goals as goal

pub loop-row-preserved : goal.loop-row-preserved
loop-row-preserved c =
    let rows = c.args.rows.now in
    let i = c.loop-row.row-index in
    let row = c.row-item.result in
    subst (AreKeysOn c.add_constraint.new.keys) (sym (given_more key_of_constraint rows i row c.loop-row-test.true c.row-item.is)) (c.in_ok-add_constraint.ensures (filter_map key_of_constraint (take i rows)) c.loop-row.invariant)

pub returns : goal.returns
returns c =
    let rows = c.args.rows.now in
    let i = c.loop-row.row-index in
    let all : length rows ≤ i = omega (arith, c.loop-row-test.false) in
    subst (AreKeysOn c.loop-row.keys) (ap (filter_map key_of_constraint) (take_all i rows all)) c.loop-row.invariant
