use Rattle.std.proofs.Common.{◌≡◌, ℕ, List, drop}
use Rattle.fmt_custom.specs.Customs.{Found, first_fault}
use Rattle.fmt_custom.specs.Indexes.{AreFound}
use Rattle.fmt_custom.proofs.reader.first_fault.Given as goal

abbrev pub invariant-loop-i : goal.invariant-loop-i
invariant-loop-i l = (bytes : List ℕ) (found : List Found) → AreFound bytes l.blocks found → first_fault found l.len (drop l.i l.entries) (drop l.i l.lefts) ≡ first_fault found l.len l.entries l.lefts
