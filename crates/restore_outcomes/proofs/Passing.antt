-- A refusal is no success.
use Rattle.std.proofs.Common.{◌≡◌, Option, Some, None, Result, Ok, Err}
use Rattle.cat_model.specs.declared.words.What.{What}
use Rattle.toc_layout.specs.declared.fault.ArchiveFault.{ArchiveFault}
use Rattle.toc_layout.specs.declared.fault.ArchiveFault.TheVariants as archive
use Rattle.restore_texts.specs.declared.fault.TextFault.{TextFault}
use Rattle.restore_texts.specs.declared.fault.TextFault.TheVariants as faults
use Rattle.tool_words.specs.declared.outcome.Outcome.{Outcome}
use Rattle.tool_words.specs.declared.outcome.Outcome.TheVariants.{Done}
use Rattle.restore_outcomes.specs.Told.{beyond, beyond_or, archive_outcome, text_outcome, told}

beyond_never : (fault : ArchiveFault) (left : Option What) → beyond_or fault left ≡ Done → ⊥
beyond_never fault None e = cc
beyond_never fault (Some left) e = cc

archive_never : (fault : ArchiveFault) → archive_outcome fault ≡ Done → ⊥
archive_never (archive.Head fault) e = beyond_never (archive.Head fault) (beyond (archive.Head fault)) e
archive_never (archive.WrongFormat code) e = beyond_never (archive.WrongFormat code) (beyond (archive.WrongFormat code)) e
archive_never (archive.Entry fault) e = cc
archive_never (archive.TooMany count) e = cc
archive_never (archive.RepeatedId id) e = cc
archive_never (archive.Short at) e = cc
archive_never (archive.Block at) e = cc
archive_never (archive.WrongId id) e = cc
archive_never (archive.RepeatedBlock at) e = cc
archive_never (archive.NoBlock id) e = cc
archive_never (archive.LargeObjects at) e = cc

text_never : (fault : TextFault) → text_outcome fault ≡ Done → ⊥
text_never faults.Failed e = cc
text_never (faults.Missing name) e = cc
text_never (faults.TooLarge most n) e = cc
text_never (faults.Archive fault) e = archive_never fault e
text_never (faults.List fault) e = cc
text_never faults.Memory e = cc

inner : {A : Type 0} (o : Outcome) → ◌≡◌ {A = Result A Outcome} (Err o) (Err Done) → o ≡ Done
inner o e = cc

pub told_never : {A : Type 0} (answer : Result A TextFault) → told answer ≡ Err Done → ⊥
told_never (Ok x) e = cc
told_never {A = A} (Err fault) e = text_never fault (inner {A = A} (text_outcome fault) e)
