-- What a call that makes a table of contents returned, against what is due.
use Rattle.std.specs.Prelude.{◌≡◌, ⊤, List, Result, Ok, Err}
use Rattle.std.specs.Global.{Vec}
use Rattle.toc_entry.specs.declared.entry.Entry.{Entry}
use Rattle.dump_toc.specs.declared.error.TocError.{TocError}
use Rattle.dump_toc.specs.declared.error.TocError.TheVariants as errors
use Rattle.dump_toc.specs.Toc.{Refusal, no_match, looping, too_many}

-- What was answered is what is due: the entries, or why there are none; or memory ran out.
abbrev pub GivesToc : Result (Vec Entry) TocError → Result (List Entry) Refusal → Type 0
GivesToc (Ok entries) due = due ≡ Ok entries.items
GivesToc (Err (errors.NoMatch fault)) due = due ≡ Err (no_match fault)
GivesToc (Err (errors.Loop path)) due = due ≡ Err (looping path.items)
GivesToc (Err (errors.TooMany count)) due = due ≡ Err (too_many count)
GivesToc (Err errors.Memory) due = ⊤
