-- The table that was made has the parent's columns, and the rows are the parent's, with the new ones behind them where it
-- is the table itself.
use Rattle.std.proofs.Common.{Bool, true, false, cond, List, ◌++◌, refl, ap, ◌∙◌, ◌≡◌, if◌then◌else◌}
use Rattle.std.proofs.lemmas.Result.{IfOk-weaker}
use Rattle.std.specs.FinMap.{get}
use Rattle.cat_model.specs.declared.key.Key.TheVariants as key
use Rattle.cat_model.specs.declared.object.QName.{QName}
use Rattle.cat_model.specs.KeyEffects.{columns_of, rows_in}
use Rattle.cat_model.specs.Tables.{orphan}
use Rattle.cat_model.specs.Trees.{same_path}
use Rattle.cat_model.specs.Values.{Row}
use Rattle.copy_effects.proofs.foreigns.first_orphan.Goals as goal

-- the rows of one of two tables, with more behind those of the first
joined_if : (same : Bool) (own other new : List Row) → cond same (cond same own other ++ new) (cond same own other) ≡ cond same (own ++ new) other
joined_if true own other new = refl
joined_if false own other new = refl

pub returns : goal.returns
returns c =
    let named = c.args.named.now in
    let q = c.args.q.now in
    let f = c.args.foreign.now in
    let new = c.args.new.now in
    let columns = c.in_ok-parent_table.ensures ∙ c.in_ok-parent_columns.ensures ∙ ap (λ (p : QName). columns_of (get named (key.Rel p))) c.parent-parent.ensures in
    let here = λ (p : QName). if same_path q p then rows_in (get named (key.Rows q)) else rows_in (get named (key.Rows p)) in
    let rows =
    c.rows_after-rows_after.ensures
    ∙ ap (λ (rows : List Row). if same_path q c.parent-parent.result.now then rows ++ c.as_slice.result.now else rows) (c.deref.ensures.value ∙ c.in_ok-rows.ensures)
    ∙ ap (λ (more : List Row). if same_path q c.parent-parent.result.now then here c.parent-parent.result.now ++ more else here c.parent-parent.result.now) c.as_slice.ensures
    ∙ joined_if (same_path q c.parent-parent.result.now) (rows_in (get named (key.Rows q))) (rows_in (get named (key.Rows c.parent-parent.result.now))) new
    ∙ ap (λ (p : QName). if same_path q p then rows_in (get named (key.Rows q)) ++ new else rows_in (get named (key.Rows p))) c.parent-parent.ensures in
    IfOk-weaker c.orphan_among.result _ _
    (λ row e. e ∙ (λ i. orphan c.args.columns.now f.columns new (columns i) f.parent_columns (rows i)))
    c.orphan_among.ensures
