use Rattle.std.proofs.Common.{◌≡◌, ◌++◌, ℕ, List, Some, None, OnOk, subst, sym, ap, ◌∙◌}
use Rattle.std.proofs.lemmas.List.{append-nil}
use Rattle.std.specs.List.{slice_get}
use Rattle.toc_entry.specs.declared.entry.Entry.{Entry}
use Rattle.archive_scripts.specs.Scripts.{custom_rows}
use Rattle.archive_scripts.proofs.Heads.{part_none, part_some}
use Rattle.archive_scripts.proofs.custom.put_at.Goals as goal

pub returns-in-None : goal.returns-in-None
returns-in-None c = λ custom holds.
    let none : None ≡ slice_get custom.entries c.args.place = c.in-None.ensures ∙ ap (λ (es : List Entry). slice_get es c.args.place) (c.entries.ensures custom holds) in
    sym (append-nil c.args.out.now.items) ∙ ap (λ (t : List ℕ). c.args.out.now.items ++ t) (part_none c.args.owners custom.entries (custom_rows custom) c.args.place none)

pub returns-in-Some : goal.returns-in-Some
returns-in-Some c = λ custom holds.
    let found : Some c.in-Some.entry.now ≡ slice_get custom.entries c.args.place = c.in-Some.ensures ∙ ap (λ (es : List Entry). slice_get es c.args.place) (c.entries.ensures custom holds) in
    let P : List ℕ → Type 0 = λ (t : List ℕ). OnOk c.put_entry.result (c.put_entry.new.out.items ≡ c.args.out.now.items ++ t) in
    subst P (part_some c.args.owners custom.entries (custom_rows custom) c.args.place c.in-Some.entry.now found) (c.put_entry.ensures custom holds)
