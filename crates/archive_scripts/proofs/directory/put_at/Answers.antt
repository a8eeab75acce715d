use Rattle.std.proofs.Common.{◌≡◌, List, [], Option, Some, None, subst, sym, ap, ◌∙◌}
use Rattle.std.proofs.lemmas.List.{append-nil}
use Rattle.std.specs.List.{slice_get}
use Rattle.toc_entry.specs.declared.entry.Entry.{Entry}
use Rattle.archive_scripts.specs.Answers.{PutsPart}
use Rattle.archive_scripts.specs.Directories.{part_due}
use Rattle.archive_scripts.proofs.directory.put_at.Goals as goal

pub returns-in-None-clause-due : goal.returns-in-None-clause-due
returns-in-None-clause-due g c = λ d tree holds told.
    let none : None ≡ slice_get d.entries c.args.place = c.in-None.ensures ∙ ap (λ (es : List Entry). slice_get es c.args.place) (c.entries.ensures d holds) in
    ([], ap (part_due c.args.owners d tree c.args.used) (sym none), sym (append-nil c.args.text.now.items))

pub returns-in-Some-clause-due : goal.returns-in-Some-clause-due
returns-in-Some-clause-due g c = λ d tree holds told.
    let found : Some c.in-Some.entry.now ≡ slice_get d.entries c.args.place = c.in-Some.ensures ∙ ap (λ (es : List Entry). slice_get es c.args.place) (c.entries.ensures d holds) in
    let P : Option Entry → Type 0 = λ (o : Option Entry). PutsPart c.args.text.now.items c.put_entry.new.text.items c.put_entry.result (part_due c.args.owners d tree c.args.used o) in
    subst P found (c.put_entry.ensures.due d tree holds told)
