use Rattle.std.proofs.Common.{◌≡◌, List, None, subst, ◌∙◌}
use Rattle.std.proofs.lemmas.Result.{IfOk-weaker}
use Rattle.cat_model.specs.declared.value.Column.{Column}
use Rattle.cat_model.specs.RowTexts.{rows_held}
use Rattle.cat_model.specs.Tables.{orphan}
use Rattle.plain_loads.proofs.foreigns.keys_found_in.Goals as goal

pub returns : goal.returns
returns c =
    let child = c.args.child.now in
    let columns = c.in_ok-table.ensures ∙ c.in_ok-columns.ensures in
    IfOk-weaker c.keys_found.result _ _ (λ found e yes.
    subst (λ (cs : List Column). orphan child.columns.now child.names.now (rows_held child.text.now) cs c.args.names.now (rows_held c.args.text.now) ≡ None) columns (e yes))
    c.keys_found.ensures
