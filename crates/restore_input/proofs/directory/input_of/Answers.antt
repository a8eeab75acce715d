use Rattle.std.proofs.Common.{ℕ, List, Result, Ok, Err, ap, sym, subst, ◌∙◌}
use Rattle.std.specs.Option.{option_copied}
use Rattle.std.proofs.lemmas.Result.{err_from_is_err_and}
use Rattle.restore_texts.specs.declared.fault.TextFault.{TextFault}
use Rattle.restore_texts.specs.Faults.{GivesText}
use Rattle.restore_texts.specs.Texts.{places_due, in_directory}
use Rattle.restore_input.specs.Answers.{input_seen}
use Rattle.restore_input.specs.Inputs.{Input, directory_input, behind_directory}
use Rattle.restore_input.proofs.Dues.{due_behind, directory_places}
use Rattle.restore_input.proofs.directory.input_of.Goals as goal

pub returns-in_err-places-clause-due : goal.returns-in_err-places-clause-due
returns-in_err-places-clause-due g c = λ d tree holds told.
    let o = c.args.options.now in
    let list = option_copied c.args.list in
    let p = err_from_is_err_and c.from_residual.result c.from_residual.ensures.1 in
    rw (p.1, p.2) (due_behind _ (places_due o c.entries.result.now list tree) (behind_directory o list tree c.args.used d)
    (λ f due. directory_places o list tree c.args.used d c.entries.result.now (Err f) (c.entries.ensures d holds) due)
    (c.in_err-places.ensures.due tree told))

pub returns-clause-due : goal.returns-clause-due
returns-clause-due g c = λ d tree holds told.
    let o = c.args.options.now in
    let list = option_copied c.args.list in
    let P : Result Input TextFault → Type 0 = λ (r : Result Input TextFault). GivesText input_seen c.taken_at.result r in
    subst P
    (ap (λ (places : List ℕ). in_directory (directory_input d tree c.args.used places)) c.deref.ensures.value
    ∙ sym (directory_places o list tree c.args.used d c.entries.result.now (Ok c.in_ok-places.places.items) (c.entries.ensures d holds) (c.in_ok-places.ensures.due tree told)))
    (c.taken_at.ensures.due d tree holds (c.in_ok-places.ensures.kept ∙ told))
