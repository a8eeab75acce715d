use Rattle.std.proofs.Common.{List, ap, ◌∙◌}
use Rattle.std.proofs.lemmas.Result.{err_from_is_err_and}
use Rattle.toc_entry.specs.declared.entry.Entry.{Entry}
use Rattle.list_files.specs.Lists.{entries_at}
use Rattle.restore_input.specs.Answers.{texts_seen}
use Rattle.restore_input.specs.Inputs.{texts_due, directory_input}
use Rattle.restore_input.proofs.Dues.{dir_due_behind}
use Rattle.restore_input.proofs.RowsRead.{input_stops, input_ends}
use Rattle.restore_input.proofs.directory.taken.Goals as goal

pub returns-in_err-texts-clause-due : goal.returns-in_err-texts-clause-due
returns-in_err-texts-clause-due g c = λ d tree holds told.
    let used = c.args.used in
    let places = c.args.places.now in
    let are = c.in_ok-entries.ensures ∙ ap (λ (es : List Entry). entries_at es places) (c.entries.ensures d holds) in
    let p = err_from_is_err_and c.from_residual-in_err-texts.result c.from_residual-in_err-texts.ensures.1 in
    rw (p.1, p.2) (dir_due_behind _ (texts_due d tree used c.deref.result.now) (directory_input d tree used places)
    (λ f due. input_stops d tree used places c.deref.result.now f (c.deref.ensures.value ∙ are) due)
    (c.in_err-texts.ensures.due d tree holds told))

pub returns-clause-due : goal.returns-clause-due
returns-clause-due g c = λ d tree holds told.
    let places = c.args.places.now in
    let are = c.in_ok-entries.ensures ∙ ap (λ (es : List Entry). entries_at es places) (c.entries.ensures d holds) in
    input_ends d tree c.args.used places c.deref.result.now c.in_ok-entries.entries.items (texts_seen c.in_ok-texts.texts.items) (c.deref.ensures.value ∙ are) are (c.in_ok-texts.ensures.due d tree holds told)
