use Rattle.std.proofs.Common.{◌≡◌, false, drop}
use Rattle.patterns.specs.declared.marks.Quotes.TheVariants.{Outside}
use Rattle.patterns.specs.Reading.{second_dot_from}
use Rattle.patterns.proofs.reading.second_dot.Given as goal

abbrev pub invariant-loop-at : goal.invariant-loop-at
invariant-loop-at l = second_dot_from l.quotes l.dotted l.at (drop l.at l.text) ≡ second_dot_from Outside false 0 l.fn.text
