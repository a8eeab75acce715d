-- The rows that were read before are those of the text.
use Rattle.std.proofs.Common.{◌≡◌, Some, ap, subst, ◌∙◌}
use Rattle.std.specs.Option.{option_map}
use Rattle.std.proofs.lemmas.Result.{IfOk-weaker}
use Rattle.rows_fit.proofs.Trying.{same_rows}
use Rattle.copy_effects.specs.Prepared.{ReadsAs, ReadsAsSome}
use Rattle.copy_effects.proofs.prepared.copied_or_tried.Goals as goal

pub returns-in-Some : goal.returns-in-Some
returns-in-Some c =
    let text = c.args.text.now in
    let rows = c.in-Some.rows.items in
    let are : option_map (λ rows. rows.items) c.args.read ≡ Some rows = ap (option_map (λ rows. rows.items)) c.in-Some.is in
    let reads : ReadsAs text rows = subst (ReadsAsSome text) are c.requires in
    IfOk-weaker c.tried_rows.result _ _
    (λ tried e. e ∙ same_rows c.args.columns.now c.args.names.now c.args.primary.now text rows reads)
    c.tried_rows.ensures
