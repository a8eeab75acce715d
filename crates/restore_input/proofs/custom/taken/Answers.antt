use Rattle.std.proofs.Common.{List, ap, ◌∙◌}
use Rattle.toc_entry.specs.declared.entry.Entry.{Entry}
use Rattle.list_files.specs.Lists.{entries_at}
use Rattle.restore_input.specs.Inputs.{input, custom_texts}
use Rattle.restore_input.proofs.custom.taken.Goals as goal

pub returns : goal.returns
returns c = λ custom holds.
    let are = c.in_ok-entries.ensures ∙ ap (λ (es : List Entry). entries_at es c.args.places.now) (c.entries.ensures custom holds) in
    let rows = c.in_ok-texts.ensures custom holds ∙ ap (custom_texts custom) (c.deref.ensures.value ∙ are) in
    λ i. input (are i) (rows i)
