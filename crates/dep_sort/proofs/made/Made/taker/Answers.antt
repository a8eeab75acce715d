use Rattle.std.proofs.Common.{rules}
use Rattle.dep_sort.specs.Cut.{taker}
use Rattle.dep_sort.proofs.Making.{at_low}
use Rattle.dep_sort.proofs.made.Made.taker.Goals as goal

pub returns-in-Some-clause-value : goal.returns-in-Some-clause-value
unfolding taker
returns-in-Some-clause-value c = search rules

pub returns-in-None-clause-value : goal.returns-in-None-clause-value
unfolding taker
returns-in-None-clause-value c = search rules

pub returns-in-Some-clause-low : goal.returns-in-Some-clause-low
returns-in-Some-clause-low c = rw c.at.ensures (at_low c.args.self.now c.in-Some.object.id)
