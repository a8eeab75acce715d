use Rattle.std.proofs.Common.{ℕ, ◌≤◌, length, map, take, sym, ap, subst, arith}
use Rattle.std.proofs.lemmas.List.{take_all}
use Rattle.cat_rows.specs.declared.relations.AttributeRow.{AttributeRow}
use Rattle.cat_names.specs.Indexed.{AreKeys}
use Rattle.obj_graph.specs.RelationLinks.{pair_cmp}
use Rattle.obj_beside.proofs.Rows.{mapped_more}
use Rattle.obj_beside.proofs.beside.column_types.Goals as goal

pub loop-row-preserved : goal.loop-row-preserved
loop-row-preserved c =
    let f : AttributeRow → ℕ × ℕ = λ r. (r.attrelid, r.atttypid) in
    let rows = c.args.rows.now in
    let i = c.loop-row.row-index in
    let row = c.row-item.result in
    subst (AreKeys pair_cmp c.add_column_type.new.types) (sym (mapped_more f rows i row c.loop-row-test.true c.row-item.is)) (c.in_ok-add_column_type.ensures (map f (take i rows)) c.loop-row.invariant)

pub returns : goal.returns
returns c =
    let f : AttributeRow → ℕ × ℕ = λ r. (r.attrelid, r.atttypid) in
    let rows = c.args.rows.now in
    let i = c.loop-row.row-index in
    let all : length rows ≤ i = omega (arith, c.loop-row-test.false) in
    subst (AreKeys pair_cmp c.loop-row.types) (ap (map f) (take_all i rows all)) c.loop-row.invariant
