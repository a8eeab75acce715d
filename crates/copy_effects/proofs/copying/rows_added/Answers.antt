-- A key refuses the rows, or they are set.
use Rattle.std.proofs.Common.{List, Ok, sym, ap, ◌∙◌}
use Rattle.std.specs.FinMap.{get, entries}
use Rattle.cat_model.specs.declared.class.Class.TheVariants as class
use Rattle.cat_model.specs.declared.key.Key.TheVariants as key
use Rattle.cat_model.specs.KeyEffects.{rows_in}
use Rattle.cat_model.specs.Trees.{Change, class_of, seen}
use Rattle.copy_effects.proofs.Tried.{keys_tried}
use Rattle.copy_effects.proofs.copying.rows_added.Goals as goal

pub returns-in-Some : goal.returns-in-Some
returns-in-Some c =
    let named = c.args.named.now in
    let q = c.args.q.now in
    keys_tried (seen named) q c.args.columns.now (entries (class_of named (class.Constraints q))) (entries (class_of named (class.Indexes q))) (rows_in (get named (key.Rows q))) c.args.new
    _ (sym c.in_ok-cause.ensures ∙ c.in-Some.is)

pub returns-in_ok-rows_changes-in-None : goal.returns-in_ok-rows_changes-in-None
returns-in_ok-rows_changes-in-None c =
    let named = c.args.named.now in
    let q = c.args.q.now in
    keys_tried (seen named) q c.args.columns.now (entries (class_of named (class.Constraints q))) (entries (class_of named (class.Indexes q))) (rows_in (get named (key.Rows q))) c.args.new
    _ (sym c.in_ok-cause.ensures ∙ c.in-None.is)
    ∙ ap (λ (changes : List Change). Ok changes) (sym c.in_ok-rows_changes-in-None.ensures)
