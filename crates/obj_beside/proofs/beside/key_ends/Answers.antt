use Rattle.std.proofs.Common.{ℕ, ◌≤◌, ◌∷◌, [], ◌++◌, Bor, length, map, take, sym, ap, subst, ◌∙◌, arith}
use Rattle.std.proofs.lemmas.List.{take_all}
use Rattle.std.specs.Ordering.{nat_cmp}
use Rattle.cat_rows.specs.declared.constraints.ConstraintRow.{ConstraintRow}
use Rattle.graph_parts.specs.declared.object.ObjId.{ObjId}
use Rattle.obj_beside.specs.Firsts.{AreFirsts}
use Rattle.obj_graph.specs.Ids.{constraint_id}
use Rattle.obj_beside.proofs.Rows.{mapped_more}
use Rattle.obj_beside.proofs.beside.key_ends.Goals as goal

pub loop-row-preserved : goal.loop-row-preserved
loop-row-preserved c =
    let f : Bor ConstraintRow → ℕ × ObjId = λ r. (r.now.conindid, constraint_id r.now.oid) in
    let rows = c.args.rows.now in
    let i = c.loop-row.row-index in
    let row = c.row-item.result in
    let more = ap (λ v. map f (take i rows) ++ (row.now.conindid, v) ∷ []) c.constraint_id.ensures in
    subst (AreFirsts nat_cmp c.add_first.new.firsts) (more ∙ sym (mapped_more f rows i row c.loop-row-test.true c.row-item.is)) (c.in_ok-add_first.ensures (map f (take i rows)) c.loop-row.invariant)

pub returns : goal.returns
returns c =
    let f : Bor ConstraintRow → ℕ × ObjId = λ r. (r.now.conindid, constraint_id r.now.oid) in
    let rows = c.args.rows.now in
    let i = c.loop-row.row-index in
    let all : length rows ≤ i = omega (arith, c.loop-row-test.false) in
    subst (AreFirsts nat_cmp c.loop-row.ends) (ap (map f) (take_all i rows all)) c.loop-row.invariant
