use Rattle.std.proofs.Common.{◌≡◌, ◌++◌, take}
use Rattle.fmt_custom.specs.Customs.{Custom}
use Rattle.fmt_custom.specs.Readers.{Holds}
use Rattle.archive_scripts.specs.Scripts.{parts_at, custom_rows}
use Rattle.archive_scripts.proofs.custom.put_all.Given as goal

abbrev pub invariant-loop-place : goal.invariant-loop-place
invariant-loop-place l = (custom : Custom) → Holds l.reader custom → l.out.items ≡ l.fn.out.items ++ parts_at l.owners custom.entries (custom_rows custom) (take l.place-index l.places)
