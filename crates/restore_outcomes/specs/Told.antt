-- Why an archive isn't written as a list or a script, as the program answers it.
use Rattle.std.specs.Prelude.{ℕ, nat_eq, Option, Some, None, Result, Ok, Err, if◌then◌else◌}
use Rattle.cat_model.specs.declared.words.What.{What}
use Rattle.cat_model.specs.declared.words.What.TheVariants as what
use Rattle.toc_layout.specs.declared.fault.HeadFault.{HeadFault}
use Rattle.toc_layout.specs.declared.fault.HeadFault.TheVariants as head
use Rattle.toc_layout.specs.declared.fault.ArchiveFault.{ArchiveFault}
use Rattle.toc_layout.specs.declared.fault.ArchiveFault.TheVariants as archive
use Rattle.restore_texts.specs.declared.fault.TextLimit.{TextLimit}
use Rattle.restore_texts.specs.declared.fault.TextLimit.TheVariants as text_limit
use Rattle.restore_texts.specs.declared.fault.TextFault.{TextFault}
use Rattle.restore_texts.specs.declared.fault.TextFault.TheVariants as faults
use Rattle.tool_words.specs.declared.outcome.Limit.{Limit}
use Rattle.tool_words.specs.declared.outcome.Limit.TheVariants as limit
use Rattle.tool_words.specs.declared.outcome.Outcome.{Outcome}
use Rattle.tool_words.specs.declared.outcome.Outcome.TheVariants as outcome

-- what a code of a compression stands for
abbrev pub compression : ℕ → Option What
compression code = if nat_eq code 1 then Some what.Gzip else if nat_eq code 2 then Some what.Lz4 else if nat_eq code 3 then Some what.Zstd else None

abbrev pub beyond_head : HeadFault → Option What
beyond_head (head.Compressed code) = compression code
beyond_head _ = None

-- what the program doesn't support, where a fault is that: a compression, the format of a tar archive, or large objects
abbrev pub beyond : ArchiveFault → Option What
beyond (archive.Head fault) = beyond_head fault
beyond (archive.WrongFormat code) = if nat_eq code 3 then Some what.Tar else None
beyond (archive.LargeObjects at) = Some what.LargeObjects
beyond _ = None

abbrev pub beyond_or : ArchiveFault → Option What → Outcome
beyond_or fault None = outcome.BadArchive fault
beyond_or fault (Some left) = outcome.OutOfProfile left

-- why an archive has no reading
abbrev pub archive_outcome : ArchiveFault → Outcome
archive_outcome (archive.TooMany count) = outcome.TooLarge limit.Entries count
archive_outcome fault = beyond_or fault (beyond fault)

abbrev pub limit_of : TextLimit → Limit
limit_of text_limit.Archive = limit.Archive
limit_of text_limit.List = limit.ListFile

abbrev pub text_outcome : TextFault → Outcome
text_outcome faults.Failed = outcome.ReadFault
text_outcome (faults.Missing name) = outcome.Missing name
text_outcome (faults.TooLarge most n) = outcome.TooLarge (limit_of most) n
text_outcome (faults.Archive fault) = archive_outcome fault
text_outcome (faults.List fault) = outcome.BadList fault
text_outcome faults.Memory = outcome.Memory

-- the same of an answer
abbrev pub told : {A : Type 0} → Result A TextFault → Result A Outcome
told (Ok x) = Ok x
told (Err fault) = Err (text_outcome fault)
