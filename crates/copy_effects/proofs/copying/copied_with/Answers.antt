-- The rows were read, or the cause.
use Rattle.std.proofs.Common.{◌<◌, List, Result, Ok, IfOk, length, sym, ap, subst, ◌∙◌}
use Rattle.std.specs.List.{All}
use Rattle.std.specs.FinMap.{get, entries}
use Rattle.cat_model.specs.declared.cause.Cause.{Cause}
use Rattle.cat_model.specs.declared.class.Class.TheVariants as class
use Rattle.cat_model.specs.declared.key.Key.TheVariants as key
use Rattle.cat_model.specs.KeyEffects.{rows_in}
use Rattle.cat_model.specs.Trees.{class_of, outcome, seen}
use Rattle.cat_model.specs.Values.{Row}
use Rattle.eng_steps.specs.Outcomes.{Steps}
use Rattle.copy_effects.specs.Keys.{added_with}
use Rattle.copy_effects.proofs.copying.copied_with.Goals as goal

pub returns-in-Ok : goal.returns-in-Ok
returns-in-Ok c =
    let named = c.args.named.now in
    let q = c.args.q.now in
    let constraints = entries (class_of named (class.Constraints q)) in
    let indexes = entries (class_of named (class.Indexes q)) in
    let old = rows_in (get named (key.Rows q)) in
    subst (λ (read : Result (List Row) Cause). Steps c.rows_added.result (outcome (added_with q c.args.columns.now constraints indexes old read) (seen named)) (λ changes. Ok changes.items))
    (sym c.in-Ok.is ∙ c.in_ok-new.ensures.rows) c.rows_added.ensures

pub returns-in-Err : goal.returns-in-Err
returns-in-Err c =
    let named = c.args.named.now in
    let q = c.args.q.now in
    let constraints = entries (class_of named (class.Constraints q)) in
    let indexes = entries (class_of named (class.Indexes q)) in
    let old = rows_in (get named (key.Rows q)) in
    ap (λ (read : Result (List Row) Cause). outcome (added_with q c.args.columns.now constraints indexes old read) (seen named)) (sym c.in_ok-new.ensures.rows ∙ c.in-Err.is)

pub rows_added-requires : goal.rows_added-requires
rows_added-requires c = subst (λ (read : Result (List Row) Cause). IfOk read (λ rows. All (λ row. 0 < length row) rows)) c.in-Ok.is c.in_ok-new.ensures.full
