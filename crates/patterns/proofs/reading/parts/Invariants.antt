use Rattle.std.proofs.Common.{◌≡◌, drop, None, []}
use Rattle.patterns.specs.declared.marks.Quotes.TheVariants.{Outside}
use Rattle.patterns.specs.Parts.{parts_from}
use Rattle.patterns.specs.Reading.{marks_from}
use Rattle.patterns.proofs.reading.parts.Given as goal

abbrev pub invariant-loop-at : goal.invariant-loop-at
invariant-loop-at l = parts_from l.schema l.name (marks_from l.quotes l.at (drop l.at l.text)) ≡ parts_from None [] (marks_from Outside 0 l.fn.text)
