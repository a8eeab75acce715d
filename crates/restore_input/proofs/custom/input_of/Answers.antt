use Rattle.std.proofs.Common.{ℕ, List, Ok, Err, ap, sym, ◌∙◌}
use Rattle.std.specs.Option.{option_copied}
use Rattle.std.proofs.lemmas.Result.{err_from_is_err_and}
use Rattle.restore_texts.specs.Texts.{places_due}
use Rattle.restore_input.specs.Inputs.{Input, custom_input, behind_custom}
use Rattle.restore_input.proofs.Dues.{due_behind, custom_places}
use Rattle.restore_input.proofs.custom.input_of.Goals as goal

pub returns-in_err-places-clause-due : goal.returns-in_err-places-clause-due
returns-in_err-places-clause-due g c = λ custom tree holds told.
    let o = c.args.options.now in
    let list = option_copied c.args.list in
    let p = err_from_is_err_and c.from_residual.result c.from_residual.ensures.1 in
    rw (p.1, p.2) (due_behind _ (places_due o c.entries.result.now list tree) (behind_custom o list tree custom)
    (λ f due. custom_places o list tree custom c.entries.result.now (Err f) (c.entries.ensures custom holds) due)
    (c.in_err-places.ensures.due tree told))

pub returns-clause-due : goal.returns-clause-due
returns-clause-due g c = λ custom tree holds told.
    let o = c.args.options.now in
    let list = option_copied c.args.list in
    custom_places o list tree custom c.entries.result.now (Ok c.in_ok-places.places.items) (c.entries.ensures custom holds) (c.in_ok-places.ensures.due tree told)
    ∙ ap (λ (i : Input). Ok i) (sym (c.in_ok-taken.ensures custom holds ∙ ap (λ (places : List ℕ). custom_input custom places) c.deref.ensures.value))
