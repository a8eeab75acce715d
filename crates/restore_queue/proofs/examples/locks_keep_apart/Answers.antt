use Rattle.std.proofs.Common.{refl}
use Rattle.restore_queue.proofs.examples.locks_keep_apart.Goals as goal

pub returns-clause-no_order : goal.returns-clause-no_order
returns-clause-no_order c = refl

pub returns-clause-kept_apart : goal.returns-clause-kept_apart
returns-clause-kept_apart c = refl

pub returns-clause-free : goal.returns-clause-free
returns-clause-free c = refl

pub returns-clause-later_first : goal.returns-clause-later_first
returns-clause-later_first c = refl

pub returns-clause-beside_index : goal.returns-clause-beside_index
returns-clause-beside_index c = refl
