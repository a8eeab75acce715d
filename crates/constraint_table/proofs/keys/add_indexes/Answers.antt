use Rattle.std.proofs.Common.{◌≤◌, ◌++◌, length, take, filter_map, sym, ap, subst, ◌∙◌, arith}
use Rattle.std.proofs.lemmas.List.{take_all, append_assoc}
use Rattle.cat_book.proofs.Placed.{given_more}
use Rattle.constraint_table.specs.KeySets.{AreKeysOn}
use Rattle.constraint_table.specs.Keys.{key_of_index}
use Rattle.constraint_table.proofs.keys.add_indexes.Goals as goal

pub loop-row-preserved : goal.loop-row-preserved
loop-row-preserved c = λ ks h.
    let rows = c.args.rows.now in
    let i = c.loop-row.row-index in
    let row = c.row-item.result in
    let before = filter_map key_of_index (take i rows) in
    subst (AreKeysOn c.add_index.new.keys) (append_assoc ks before _ ∙ ap (λ more. ks ++ more) (sym (given_more key_of_index rows i row c.loop-row-test.true c.row-item.is))) (c.in_ok-add_index.ensures (ks ++ before) (c.loop-row.invariant ks h))

pub returns : goal.returns
returns c = λ ks h.
    let rows = c.args.rows.now in
    let i = c.loop-row.row-index in
    let all : length rows ≤ i = omega (arith, c.loop-row-test.false) in
    subst (AreKeysOn c.loop-row.keys) (ap (λ rs. ks ++ filter_map key_of_index rs) (take_all i rows all)) (c.loop-row.invariant ks h)
