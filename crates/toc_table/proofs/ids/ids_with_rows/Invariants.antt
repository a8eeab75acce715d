use Rattle.std.proofs.Common.{◌≡◌, ℕ, List, [], drop}
use Rattle.toc_table.specs.Ids.{AreIds}
use Rattle.toc_table.specs.Tables.{ids_with_rows}
use Rattle.toc_table.proofs.ids.ids_with_rows.Given as goal

abbrev pub invariant-loop-entry : goal.invariant-loop-entry
invariant-loop-entry l = (met : List ℕ) × AreIds l.ids met × (ids_with_rows met (drop l.entry-index l.entries) ≡ ids_with_rows [] l.entries)
