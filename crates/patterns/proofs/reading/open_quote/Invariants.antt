use Rattle.std.proofs.Common.{◌≡◌, drop}
use Rattle.patterns.specs.declared.marks.Quotes.TheVariants.{Outside}
use Rattle.patterns.specs.Reading.{open_from}
use Rattle.patterns.proofs.reading.open_quote.Given as goal

abbrev pub invariant-loop-at : goal.invariant-loop-at
invariant-loop-at l = open_from l.quotes l.at (drop l.at l.text) ≡ open_from Outside 0 l.fn.text
