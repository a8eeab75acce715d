use Rattle.std.proofs.Common.{◌≤◌, ◌∷◌, [], ◌++◌, length, take, sym, ap, subst, ◌∙◌, arith}
use Rattle.std.proofs.lemmas.List.{take_all}
use Rattle.cat_model.specs.Values.{bytes_cmp}
use Rattle.cat_rows.specs.declared.roles.AuthidRow.{AuthidRow}
use Rattle.cat_names.specs.Indexed.{AreKeys}
use Rattle.cat_names.specs.Lookups.{role_names}
use Rattle.cat_names.proofs.Steps.{column_more}
use Rattle.cat_names.proofs.role_index.role_names.Goals as goal

pub loop-row-preserved : goal.loop-row-preserved
loop-row-preserved c =
    let rows = c.args.rows.now in
    let i = c.loop-row.row-index in
    let row = c.row-item.result in
    let more = ap (λ n. role_names (take i rows) ++ n ∷ []) c.in_ok-clone.ensures.cases in
    subst (AreKeys bytes_cmp c.add_key.new.keys) (more ∙ sym (column_more (λ (r : AuthidRow). r.rolname) rows i row c.loop-row-test.true c.row-item.is)) (c.in_ok-add_key.ensures.added (role_names (take i rows)) c.loop-row.invariant)

pub returns : goal.returns
returns c =
    let rows = c.args.rows.now in
    let i = c.loop-row.row-index in
    let all : length rows ≤ i = omega (arith, c.loop-row-test.false) in
    subst (AreKeys bytes_cmp c.loop-row.names) (ap role_names (take_all i rows all)) c.loop-row.invariant
