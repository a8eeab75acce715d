use Rattle.std.proofs.Common.{ℕ, List, ap, sym, ◌∙◌}
use Rattle.toc_entry.specs.declared.entry.Entry.{Entry}
use Rattle.entry_choices.specs.Kinds.{is_one_of, session_kinds}
use Rattle.list_files.proofs.Books.{session_here}
use Rattle.list_files.proofs.places.is_session_at.Goals as goal

pub returns : goal.returns
returns c =
    session_here c.args.entries.now c.args.place c.index-entries-place.result c.sets_up_session.result c.requires c.index-entries-place.is
    (c.sets_up_session.ensures ∙ ap (λ (desc : List ℕ). is_one_of session_kinds desc) c.as_bytes.ensures.value ∙ ap (λ (e : Entry). is_one_of session_kinds e.desc) (sym c.index-entries-place.is))
