use Rattle.std.proofs.Common.{◌≡◌, length}
use Rattle.archive_entries.specs.Fits.{are_told}
use Rattle.archive_entries.proofs.fits.are_told.Given as goal

abbrev pub invariant-loop-entry : goal.invariant-loop-entry
invariant-loop-entry l = are_told 0 l.entries ≡ are_told l.last l.rest

abbrev pub decreases-loop-entry : goal.decreases-loop-entry
decreases-loop-entry l = length l.rest
