use Rattle.std.proofs.Common.{ℕ, List, Result, Ok, Err, ap, sym, subst, ◌∙◌}
use Rattle.std.specs.Option.{option_copied}
use Rattle.std.proofs.lemmas.Result.{err_from_is_err_and}
use Rattle.restore_texts.specs.declared.fault.TextFault.{TextFault}
use Rattle.restore_texts.specs.Faults.{GivesText}
use Rattle.restore_texts.specs.Texts.{places_due, directory_text, behind_directory}
use Rattle.restore_texts.proofs.Dues.{due_behind, directory_places}
use Rattle.restore_texts.proofs.directory.text_of.Goals as goal

pub returns-in_err-places-clause-due : goal.returns-in_err-places-clause-due
returns-in_err-places-clause-due g c = λ d tree holds told.
    let o = c.args.options.now in
    let list = option_copied c.args.list in
    let p = err_from_is_err_and c.from_residual.result c.from_residual.ensures.1 in
    rw (p.1, p.2) (due_behind _ (places_due o c.entries.result.now list tree) (behind_directory c.args.wish o list tree c.args.used d)
    (λ f due. directory_places c.args.wish o list tree c.args.used d c.entries.result.now (Err f) (c.entries.ensures d holds) due)
    (c.in_err-places.ensures.due tree told))

pub returns-clause-due : goal.returns-clause-due
returns-clause-due g c = λ d tree holds told.
    let o = c.args.options.now in
    let list = option_copied c.args.list in
    let P : Result (List ℕ) TextFault → Type 0 = λ (r : Result (List ℕ) TextFault). GivesText (λ v. v.items) c.written.result r in
    subst P
    (ap (λ (places : List ℕ). directory_text c.args.wish o d tree c.args.used places) c.deref.ensures.value
    ∙ sym (directory_places c.args.wish o list tree c.args.used d c.entries.result.now (Ok c.in_ok-places.places.items) (c.entries.ensures d holds) (c.in_ok-places.ensures.due tree told)))
    (c.written.ensures.due d tree holds (c.in_ok-places.ensures.kept ∙ told))
