use Rattle.std.proofs.Common.{◌≡◌, ℕ, List, length}
use Rattle.toc_table.specs.Ids.{AreIds}
use Rattle.fmt_custom.specs.Customs.{Found, found_at, found_in}
use Rattle.fmt_custom.specs.Indexes.{IsSuffix, AreFound}
use Rattle.fmt_custom.proofs.blocks.read_blocks.Given as goal

abbrev pub invariant-each : goal.invariant-each
invariant-each l =
    IsSuffix l.left l.bytes
    × ((ids : List ℕ) → AreIds l.known ids → (found : List Found) × AreFound l.bytes l.blocks found × (found_at (length l.bytes) ids (length l.left) found l.left ≡ found_in (length l.bytes) ids l.rest))

abbrev pub decreases-each : goal.decreases-each
decreases-each l = length l.left
