use Rattle.std.proofs.Common.{◌≡◌, true, drop}
use Rattle.patterns.specs.declared.marks.Quotes.TheVariants.{Outside}
use Rattle.patterns.specs.Parts.{has_empty}
use Rattle.patterns.specs.Reading.{marks_from}
use Rattle.patterns.proofs.reading.has_empty_part.Given as goal

abbrev pub invariant-loop-at : goal.invariant-loop-at
invariant-loop-at l = has_empty l.empty (marks_from l.quotes l.at (drop l.at l.text)) ≡ has_empty true (marks_from Outside 0 l.fn.text)
