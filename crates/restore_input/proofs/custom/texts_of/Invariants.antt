-- The rows so far are those of the entries so far.
use Rattle.std.proofs.Common.{◌≡◌, take}
use Rattle.fmt_custom.specs.Customs.{Custom}
use Rattle.fmt_custom.specs.Readers.{Holds}
use Rattle.restore_input.specs.Answers.{texts_seen}
use Rattle.restore_input.specs.Inputs.{custom_texts}
use Rattle.restore_input.proofs.custom.texts_of.Given as goal

abbrev pub invariant-loop-entry : goal.invariant-loop-entry
invariant-loop-entry l = (custom : Custom) → Holds l.reader custom → texts_seen l.texts.items ≡ custom_texts custom (take l.entry-index l.entries)
